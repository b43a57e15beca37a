-- Every state of every run is in step and valid.
use Rattle.std.proofs.Common.{◌≡◌, ℕ, Bool, true, false, not, List, [], ◌∷◌, None, length, refl, ap, ◌∙◌, arith}
use Rattle.std.specs.Prelude.{Result, Ok, Err, MatchResult, ◌&&◌, IsOk}
use Rattle.std.proofs.lemmas.List.Elements.{All-nil}
use Rattle.px_base.specs.declared.program.Class.{Class}
use Rattle.px_base.specs.declared.program.Class.TheVariants.{SelfStabilising, LocallyCorrecting, GloballyCorrecting}
use Rattle.px_base.specs.declared.program.Refused.{Refused}
use Rattle.px_base.specs.declared.wire.Update.{Update}
use Rattle.px_base.specs.Classes.{class_of}
use Rattle.px_base.specs.CountSteps.{delta_of}
use Rattle.px_base.specs.Parts.{IsWorkerCuts, part_count}
use Rattle.hub_terms.specs.declared.tasks.Limits.{Limits}
use Rattle.hub_terms.specs.Hubs.{worker_at, order_at, waiting_at}
use Rattle.hub_terms.specs.UnderWay.{updates_now}
use Rattle.hub_terms.specs.Jobs.{Job, IsSound, LimitsFit}
use Rattle.hub_terms.specs.Systems.{SystemState, Event, opening_system, world_at, state_after, state_after_all, IsRun}
use Rattle.hub_terms.specs.InStep.{IsInStep}
use Rattle.hub_terms.specs.Valid.{UpdateLiesBetween, IsBetween, IsCounted, is_dead_in, dead_away, ValidAs, IsValid}
use Rattle.list_laws.proofs.Lists.{at_replicate}
use Rattle.valid_laws.proofs.CountKept.{none_away}
use Rattle.system_laws.proofs.Kept.{event_in_step}
use Rattle.hub_laws.proofs.Opening.{system_opens}
use Rattle.valid_laws.proofs.CountValid.{event_keeps_valid}

module _ (cuts : List ℕ) (limits : Limits) (told : Bool) (job : Job) where
  abbrev opening : SystemState
  opening = opening_system cuts limits told job

  nothing : (i : ℕ) → world_at opening i ≡ None
  nothing i = at_replicate (part_count cuts) None i

  no_order : (i : ℕ) → order_at opening.hub i ≡ None
  no_order i = at_replicate (part_count cuts) None i

  no_mail : (i : ℕ) → waiting_at opening.hub i ≡ []
  no_mail i = at_replicate {X = List Update} (part_count cuts) [] i

  opens_between : (a : List ℕ) → IsBetween opening a
  opens_between a = record {
    worlds = λ i w is. absurd (cc (is, nothing i));
    orders = λ i. rw (no_order i) (All-nil (UpdateLiesBetween a job.starts));
    inboxes = λ i. rw (no_mail i) (All-nil (UpdateLiesBetween a job.starts));
  }

  opens_counted : (core : List ℕ) → IsCounted opening core
  opens_counted core = record {
    alive = λ i w is. absurd (cc (is, nothing i));
    balance = λ i v few master. rw (nothing i) (
        let box : delta_of (waiting_at opening.hub i) v ≡ 0 = ap (λ (us : List Update). delta_of us v) (no_mail i) in
        let step : delta_of (updates_now 1 (order_at opening.hub i)) v ≡ 0 = ap (λ o. delta_of (updates_now 1 o) v) (no_order i) in
        let away : dead_away opening i v ≡ 0 = none_away opening i v (λ j u. ap (λ o. not (worker_at opening.hub j).due && is_dead_in o u) (nothing j) ∙ and_false (not (worker_at opening.hub j).due)) in
        omega (arith, box, step, away));
    enough = λ i w epoch round updates is. absurd (cc (is, nothing i));
  }
    where
      and_false : (b : Bool) → (b && false) ≡ false
      and_false true = refl
      and_false false = refl

  pub opens_valid : IsSound job → IsValid opening
  opens_valid sound yes_told answer is = by_class (class_of job.core.program) sound.class
    where
      by_class : (r : Result Class Refused) → IsOk r → MatchResult r (λ class. ValidAs class opening answer) (λ refused. ⊥)
      by_class (Ok SelfStabilising) accepted = tt
      by_class (Ok LocallyCorrecting) accepted = opens_between answer
      by_class (Ok GloballyCorrecting) accepted = opens_counted answer
      by_class (Err refused) accepted = absurd (cc accepted)

-- in step and valid stay so, event by event
pub runs_keep : (s : SystemState) (events : List Event) → IsInStep s → IsValid s → IsRun s events → IsInStep (state_after_all s events) × IsValid (state_after_all s events)
runs_keep s [] ok valid run = (ok, valid)
runs_keep s (e ∷ events) ok valid run = runs_keep (state_after s e) events (event_in_step s e ok run.0) (event_keeps_valid s e ok valid run.0) run.1

-- every state of every run of a sound job
pub every_state : (cuts : List ℕ) (limits : Limits) (told : Bool) (job : Job) (events : List Event) → IsSound job → LimitsFit limits → IsWorkerCuts (length job.rows) cuts → IsRun (opening_system cuts limits told job) events →
    IsInStep (state_after_all (opening_system cuts limits told job) events) × IsValid (state_after_all (opening_system cuts limits told job) events)
every_state cuts limits told job events sound fit cut run =
    runs_keep (opening_system cuts limits told job) events (system_opens cuts limits told job sound fit cut) (opens_valid cuts limits told job sound) run
