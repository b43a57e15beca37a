-- An answer that the hub takes keeps its book-keeping, told by the event alone.
use Rattle.std.proofs.Common.{◌≡◌, ℕ, ◌<◌, Option, Some, None, refl, subst}
use Rattle.std.specs.Prelude.{Result, Ok, MatchOption, ⊤}
use Rattle.px_base.specs.declared.wire.Order.{Order}
use Rattle.px_base.specs.declared.wire.Answer.{Answer}
use Rattle.px_base.specs.declared.wire.Foreign.{Foreign}
use Rattle.hub_terms.specs.Hubs.{HubState, order_at, worker_count}
use Rattle.hub_terms.specs.HubEvents.{absorption, after_answer, answer_taken, answer_to, foreign_of}
use Rattle.hub_terms.specs.HubInStep.{IsHubInStep}
use Rattle.hub_terms.specs.Systems.{AnswersValues, HasOrder}
use Rattle.hub_laws.proofs.HubTook.{took_in_step}

-- a hub that is taken is one
one_hub : (r : Result HubState Foreign) (hub new : HubState) → r ≡ Ok hub → r ≡ Ok new → hub ≡ new
one_hub r hub new one other = cc

pub answered_in_step : (hub new : HubState) (i : ℕ) (answer : Answer) → IsHubInStep hub → i < worker_count hub → HasOrder hub i → AnswersValues answer → after_answer hub i answer ≡ Ok new → IsHubInStep new
answered_in_step hub new i answer ok inside asked values = by_order (order_at hub i) refl asked
  where
    by_foreign : (order : Order) → order_at hub i ≡ Some order → (f : Option Foreign) → foreign_of hub.inboxes i order answer ≡ f → answer_taken hub i answer f ≡ Ok new → IsHubInStep new
    by_foreign order had None none taken = subst (λ (h : HubState). IsHubInStep h) (one_hub (Ok (absorption hub i answer)) (absorption hub i answer) new refl taken) (took_in_step hub i order answer ok inside had none values)
    by_foreign order had (Some foreign) some taken = absurd (cc taken)

    by_order : (o : Option Order) → order_at hub i ≡ o → MatchOption o ⊥ (λ order. ⊤) → answer_to hub i answer o ≡ Ok new → IsHubInStep new
    by_order None none has taken = absurd has
    by_order (Some order) had has taken = by_foreign order had (foreign_of hub.inboxes i order answer) refl taken
