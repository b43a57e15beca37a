-- The opening has all facts, and each event keeps them; what follows for a turn, and for every state of every run.
use Rattle.std.proofs.Common.{◌≡◌, ◌≢◌, ℕ, Bool, List, [], ◌∷◌, Some, None, sym, subst}
use Rattle.hub_terms.specs.declared.tasks.Limits.{Limits}
use Rattle.hub_terms.specs.declared.stops.Why.TheVariants as why
use Rattle.hub_terms.specs.Jobs.{Job}
use Rattle.hub_terms.specs.Hubs.{turn_of, stop}
use Rattle.hub_terms.specs.Systems.{SystemState, Event, give, MayCome, IsRun, state_after, state_after_all, opening_system}
use Rattle.hub_laws.proofs.Opening.{system_opens}
use Rattle.system_laws.proofs.Kept.{event_in_step}
use Rattle.valid_laws.proofs.CountValid.{event_keeps_valid}
use Rattle.valid_laws.proofs.Runs.{opens_valid}
use Rattle.round_laws.specs.Rounds.{AllLive}
use Rattle.round_laws.specs.OnTime.{IsTimed, AllowsEnough, RoundsAreWithin, AreSpent}
use Rattle.round_laws.proofs.NearAlways.{opens_near, event_near}
use Rattle.round_laws.proofs.Spent.{opens_unspent, event_stops_spent, budget_never_told, told_is_spent, first_told_all_live}
use Rattle.budget_laws.specs.KeptFacts.{KeepsAll}
use Rattle.budget_laws.specs.Starts.{MayStart, IsReached}
use Rattle.budget_laws.proofs.Named.{opens_named, event_names_worker}
use Rattle.budget_laws.proofs.Classes.{opens_on_time, event_on_time, on_time_within}

-- ---- the opening, and every event

pub opens_with_all : (cuts : List ℕ) (limits : Limits) (told : Bool) (job : Job) → MayStart cuts limits job → KeepsAll (opening_system cuts limits told job)
opens_with_all cuts limits told job start = record {
  in_step = system_opens cuts limits told job start.sound start.in_range start.of_graph;
  valid = opens_valid cuts limits told job start.sound;
  near = opens_near cuts limits told job;
  on_time = opens_on_time cuts limits told job start.of_graph;
  spent = opens_unspent cuts limits told job;
  named = opens_named cuts limits told job;
}

pub event_keeps_all : (s : SystemState) (e : Event) → KeepsAll s → MayCome s e → KeepsAll (state_after s e)
event_keeps_all s e old may = record {
  in_step = event_in_step s e old.in_step may;
  valid = event_keeps_valid s e old.in_step old.valid may;
  near = event_near s e old.in_step old.near may;
  on_time = event_on_time s e old.in_step old.valid old.on_time may;
  spent = event_stops_spent s e old.in_step old.spent may;
  named = event_names_worker s e old.named may;
}

-- ---- a turn

-- no turn tells a worker that the rounds are spent, where the links tell, the lag is 0 and rounds enough are allowed
pub give_never_spent : (s : SystemState) (i : ℕ) → KeepsAll s → IsTimed s → AllowsEnough s → turn_of s.hub i ≢ stop why.Budget
give_never_spent s i old = budget_never_told s i old.in_step old.on_time

-- where a turn tells a worker that the rounds are spent, they are
pub give_was_spent : (s : SystemState) (i : ℕ) → KeepsAll s → MayCome s (give i) → turn_of s.hub i ≡ stop why.Budget → AreSpent (state_after s (give i))
give_was_spent s i old = told_is_spent s i old.in_step old.spent

-- where it is the first such turn, all workers are live
pub give_first_spent : (s : SystemState) (i : ℕ) → KeepsAll s → s.hub.halt ≡ None → turn_of s.hub i ≡ stop why.Budget → AllLive s.hub
give_first_spent s i old = first_told_all_live s i old.in_step

-- while all workers are live each round is within its bound
pub known_within : (s : SystemState) → KeepsAll s → IsTimed s → RoundsAreWithin s
known_within s all timed = on_time_within s timed all.on_time

-- ---- every run

run_keeps_all : (s : SystemState) (events : List Event) → KeepsAll s → IsRun s events → KeepsAll (state_after_all s events)
run_keeps_all s [] old run = old
run_keeps_all s (e ∷ events) old run = run_keeps_all (state_after s e) events (event_keeps_all s e old run.0) run.1

pub reached_keeps_all : (s : SystemState) → IsReached s → KeepsAll s
reached_keeps_all s reached = subst KeepsAll (sym reached.is)
    (run_keeps_all (opening_system reached.cuts reached.limits reached.told reached.job) reached.events (opens_with_all reached.cuts reached.limits reached.told reached.job reached.start) reached.run)

pub reached_within : (s : SystemState) → IsReached s → IsTimed s → RoundsAreWithin s
reached_within s reached = known_within s (reached_keeps_all s reached)

pub reached_never_told : (s : SystemState) (i : ℕ) → IsReached s → IsTimed s → AllowsEnough s → turn_of s.hub i ≢ stop why.Budget
reached_never_told s i reached = give_never_spent s i (reached_keeps_all s reached)

pub reached_never_spent : (s : SystemState) → IsReached s → IsTimed s → AllowsEnough s → s.hub.halt ≢ Some why.Budget
reached_never_spent s reached = (reached_keeps_all s reached).on_time.budget

pub reached_told_spent : (s : SystemState) (i : ℕ) → IsReached s → MayCome s (give i) → turn_of s.hub i ≡ stop why.Budget → AreSpent (state_after s (give i))
reached_told_spent s i reached = give_was_spent s i (reached_keeps_all s reached)

pub reached_first_spent : (s : SystemState) (i : ℕ) → IsReached s → s.hub.halt ≡ None → turn_of s.hub i ≡ stop why.Budget → AllLive s.hub
reached_first_spent s i reached = give_first_spent s i (reached_keeps_all s reached)
