-- Whatever lag is allowed and whatever the links tell, live workers stand near to each other in every state.
use Rattle.std.proofs.Common.{◌≡◌, ℕ, ◌<◌, List, Option, Some, None, refl, ap, ◌∙◌, Bool, true}
use Rattle.std.specs.Prelude.{◌==◌, MatchOption, ⊤}
use Rattle.px_base.specs.declared.wire.Order.{Order}
use Rattle.px_base.specs.declared.wire.Answer.{Answer}
use Rattle.px_base.specs.declared.wire.Answer.TheVariants.{Stepped, Reported}
use Rattle.px_base.specs.declared.wire.Foreign.{Foreign}
use Rattle.px_base.specs.Parts.{part_count}
use Rattle.hub_terms.specs.declared.tasks.Limits.{Limits}
use Rattle.hub_terms.specs.Jobs.{Job}
use Rattle.hub_terms.specs.declared.workers.MemberState.{MemberState}
use Rattle.hub_terms.specs.Members.{opening_member}
use Rattle.hub_terms.specs.Hubs.{HubState, worker_count, worker_at, order_at}
use Rattle.hub_terms.specs.HubEvents.{foreign_of, absorption, answer_to, answer_taken}
use Rattle.hub_terms.specs.HubInStep.{IsHubInStep}
use Rattle.hub_terms.specs.Systems.{SystemState, Event, give, took, lost, joined, halt, opening_system, AnswersValues, MayCome, state_after, state_taken}
use Rattle.hub_terms.specs.InStep.{IsInStep}
use Rattle.list_laws.proofs.Lists.{at_replicate}
use Rattle.hub_laws.proofs.HubTook.{right_answer, stepped_order, reported_order, stepped_is, reported_is}
use Rattle.round_laws.specs.Rounds.{RoundsAreNear}
use Rattle.round_laws.proofs.Near.{gave_near, stepped_near, reported_near, lost_near, joined_near, halted_near}

pub opens_near : (cuts : List ℕ) (limits : Limits) (told : Bool) (job : Job) → RoundsAreNear (opening_system cuts limits told job).hub
opens_near cuts limits told job = record {
  near = λ i j here there. absurd (not_live i here);
  pace = λ i j e r us is live. absurd (not_live j live);
}
  where
    not_live : (i : ℕ) → (worker_at (opening_system cuts limits told job).hub i).live ≡ true → ⊥
    not_live i live = cc (live, ap (λ (w : MemberState). w.live) (at_replicate (part_count cuts) opening_member i))

absorbed_near : (hub : HubState) (i : ℕ) (order : Order) (answer : Answer) → IsHubInStep hub → i < worker_count hub → order_at hub i ≡ Some order → foreign_of hub.inboxes i order answer ≡ None → AnswersValues answer →
    RoundsAreNear hub → RoundsAreNear (absorption hub i answer)
absorbed_near hub i order (Stepped epoch round changed updates) ok inside had none values old =
    let this = stepped_order order epoch round changed updates (right_answer hub.inboxes i order (Stepped epoch round changed updates) none).0 in
    rw (stepped_is hub i epoch round changed updates (epoch == hub.members.epoch) refl) (stepped_near hub i epoch round this.0 changed updates (epoch == hub.members.epoch) ok inside (had ∙ ap Some this.1) values old)
absorbed_near hub i order (Reported epoch seen) ok inside had none known old =
    let this = reported_order order epoch seen (right_answer hub.inboxes i order (Reported epoch seen) none).0 in
    rw (reported_is hub i epoch seen (epoch == hub.members.epoch) refl) (reported_near hub i epoch seen (epoch == hub.members.epoch) ok inside (had ∙ ap Some this) old)

pub event_near : (s : SystemState) (e : Event) → IsInStep s → RoundsAreNear s.hub → MayCome s e → RoundsAreNear (state_after s e).hub
event_near s (give i) ok old may = gave_near s.hub i ok.hub may.0 may.1 old
event_near s (took i answer) ok old may = by_order (order_at s.hub i) refl may.1
  where
    by_foreign : (order : Order) → order_at s.hub i ≡ Some order → (f : Option Foreign) → foreign_of s.hub.inboxes i order answer ≡ f → RoundsAreNear (state_taken s i (answer_taken s.hub i answer f)).hub
    by_foreign order had None none = absorbed_near s.hub i order answer ok.hub may.0 had none may.2 old
    by_foreign order had (Some foreign) some = old

    by_order : (o : Option Order) → order_at s.hub i ≡ o → MatchOption o ⊥ (λ order. ⊤) → RoundsAreNear (state_taken s i (answer_to s.hub i answer o)).hub
    by_order None none has = absurd has
    by_order (Some order) had has = by_foreign order had (foreign_of s.hub.inboxes i order answer) refl
event_near s (lost i kind) ok old may = lost_near s.hub i kind ok.hub may.0 may.1 old
event_near s (joined i) ok old may = joined_near s.hub i ok.hub may.0 may.1 may.2 old
event_near s (halt i reason) ok old may = halted_near s.hub i reason old
