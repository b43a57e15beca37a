-- With what a run may start, and which states it reaches.
use Rattle.std.specs.Prelude.{◌≡◌, ℕ, Bool, List, length}
use Rattle.px_base.specs.Parts.{IsWorkerCuts}
use Rattle.hub_terms.specs.declared.tasks.Limits.{Limits}
use Rattle.hub_terms.specs.Jobs.{Job, IsSound, LimitsFit}
use Rattle.hub_terms.specs.Systems.{SystemState, Event, IsRun, opening_system, state_after_all}

-- A run may start with a sound job, limits in range, and cuts of the job's graph.
pub record MayStart (cuts : List ℕ) (limits : Limits) (job : Job) : Type 0 where
  pub sound : IsSound job
  pub in_range : LimitsFit limits
  pub of_graph : IsWorkerCuts (length job.rows) cuts

-- The state is reached by a run: these events lead to it from the opening, each of which may come when it comes.
pub record IsReached (s : SystemState) : Type 0 where
  pub cuts : List ℕ
  pub limits : Limits
  pub told : Bool
  pub job : Job
  pub events : List Event
  pub start : MayStart cuts limits job
  pub run : IsRun (opening_system cuts limits told job) events
  pub is : s ≡ state_after_all (opening_system cuts limits told job) events
