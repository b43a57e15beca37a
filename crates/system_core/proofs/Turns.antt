-- What a turn shows: that all is done, which order is handed out, or that the rounds were spent.
use Rattle.std.proofs.Common.{◌≡◌, ◌≢◌, ℕ, true, None, Option, Some, arith, refl, sym, ap, subst}
use Rattle.std.specs.Prelude.{MatchOption}
use Rattle.std.proofs.lemmas.List.{get_or-set_same}
use Rattle.px_base.specs.declared.wire.Order.{Order}
use Rattle.px_base.specs.declared.wire.Order.TheVariants.{Step, Report}
use Rattle.px_base.specs.Worlds.{World}
use Rattle.recovery.specs.Givens.{GivenState}
use Rattle.recovery.specs.TurnFor.{turn_for}
use Rattle.recovery.specs.declared.given.Turn.TheVariants.{Work, Done, Stop}
use Rattle.hub_terms.specs.declared.stops.Why.{Why}
use Rattle.hub_terms.specs.declared.stops.Why.TheVariants as why
use Rattle.hub_terms.specs.Hubs.{Turn, after_turn, all_reported, done, order_at, reported_values, stop, turn_of, wait, with_order, work}
use Rattle.hub_terms.specs.InStep.{IsAccepted}
use Rattle.hub_terms.specs.Systems.{SystemState, MayCome, give, state_after, world_at}
use Rattle.hub_terms.specs.Valid.{IsCoreAnswer}
use Rattle.hub_laws.proofs.HubGave.{turn_by}
use Rattle.job_laws.proofs.OneAnswer.{exists}
use Rattle.system_laws.proofs.Kept.{event_in_step, none_told}
use Rattle.quiet_laws.proofs.Reported.{reported_are_answer}
use Rattle.round_laws.specs.OnTime.{AllowsEnough, AreSpent, IsTimed}
use Rattle.budget_laws.specs.KeptFacts.{KeepsAll}
use Rattle.budget_laws.proofs.AllKept.{give_never_spent, give_was_spent}
use Rattle.system_core.specs.Promises.{IsDone, IsHandedOut}

-- ---- the turn that a worker is told is the hub's

told_done : (i : ℕ) (turn : Turn) → turn_for i turn ≡ Done → turn ≡ done
told_done i (work order) e = cc
told_done i wait e = cc
told_done i done e = refl
told_done i (stop reason) e = cc

told_stop : (i : ℕ) (turn : Turn) (reason : Why) → turn_for i turn ≡ Stop reason → turn ≡ stop reason
told_stop i (work order) reason e = cc
told_stop i wait reason e = cc
told_stop i done reason e = cc
told_stop i (stop other) reason e = cc

same_given : (a b : GivenState) → Work a ≡ Work b → a ≡ b
same_given a b e = cc

told_work : (i : ℕ) (turn : Turn) (given : GivenState) → turn_for i turn ≡ Work given → (given.worker ≡ i) × (turn ≡ work given.order)
told_work i (work order) given e =
    let same : record { worker = i; order = order } ≡ given = same_given (record { worker = i; order = order }) given e in
    (sym (ap (λ (g : GivenState). g.worker) same), ap (λ (g : GivenState). work g.order) same)
told_work i wait given e = absurd (cc e)
told_work i done given e = absurd (cc e)
told_work i (stop reason) given e = absurd (cc e)

-- ---- what it shows

-- where each worker has reported, the reports are the core answer
pub reports_answer : (s : SystemState) → KeepsAll s → all_reported s.hub ≡ true → s.told ≡ true → IsCoreAnswer s.job (reported_values s.hub)
reports_answer s kept all tells =
    let found = exists s.job kept.in_step.job.sound in
    subst (IsCoreAnswer s.job) (sym (reported_are_answer s found.0 kept.in_step kept.valid tells all found.1)) found.1

module _ (s : SystemState) (i : ℕ) (kept : KeepsAll s) (may : MayCome s (give i)) where
  abbrev after : Turn → SystemState
  after turn = record s { hub = after_turn s.hub i turn }

  done_shows : (turn_of s.hub i) ≡ done → IsDone (state_after s (give i))
  done_shows e = turn_by (λ (turn : Turn). turn ≡ done → IsDone (after turn)) s.hub i
      (λ reason halted other. absurd (cc other))
      (λ free quiet all same. record { quiet = quiet; reported = all; answer = reports_answer s kept all })
      (λ free quiet none other. absurd (cc other))
      (λ free busy may other. absurd (cc other))
      (λ free busy spent other. absurd (cc other))
      (λ other. absurd (cc other)) e

  pub gave_done : turn_for i (turn_of s.hub i) ≡ Done → IsDone (state_after s (give i))
  gave_done e = done_shows (told_done i (turn_of s.hub i) e)

  given_order : (order : Order) → order_at (with_order s.hub i order) i ≡ Some order
  given_order (Step epoch round updates) = get_or-set_same s.hub.orders i (Some (Step epoch round updates)) None (omega (arith, may.0, kept.in_step.hub.places.orders))
  given_order (Report epoch) = get_or-set_same s.hub.orders i (Some (Report epoch)) None (omega (arith, may.0, kept.in_step.hub.places.orders))

  pub gave_order : (given : GivenState) → turn_for i (turn_of s.hub i) ≡ Work given → IsHandedOut (state_after s (give i)) i given
  gave_order given e = record { worker = is.0; order = has; accepted = λ tells. by_world (world_at s i) refl tells }
    where
      is : (given.worker ≡ i) × (turn_of s.hub i ≡ work given.order)
      is = told_work i (turn_of s.hub i) given e

      has : order_at (after_turn s.hub i (turn_of s.hub i)) i ≡ Some given.order
      has = subst (λ (turn : Turn). order_at (after_turn s.hub i turn) i ≡ Some given.order) (sym is.1) (given_order given.order)

      by_world : (o : Option World) → world_at s i ≡ o → s.told ≡ true → MatchOption o ⊥ (λ w. IsAccepted w given.order)
      by_world None none tells = cc (tells, none_told s i kept.in_step.live_worlds may.1 none)
      by_world (Some w) here tells = ((event_in_step s (give i) kept.in_step may).worlds i w here).accepts given.order has

  pub gave_never_budget : IsTimed s → AllowsEnough s → turn_for i (turn_of s.hub i) ≢ Stop why.Budget
  gave_never_budget timed enough e = give_never_spent s i kept timed enough (told_stop i (turn_of s.hub i) why.Budget e)

  pub gave_budget : turn_for i (turn_of s.hub i) ≡ Stop why.Budget → AreSpent (state_after s (give i))
  gave_budget e = give_was_spent s i kept may (told_stop i (turn_of s.hub i) why.Budget e)
