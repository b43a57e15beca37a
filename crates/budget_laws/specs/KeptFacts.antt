-- All facts that every state of a run keeps, in one record.
use Rattle.std.specs.Prelude.{◌≡◌, ℕ, ◌<◌, Some}
use Rattle.hub_terms.specs.declared.stops.Why.TheVariants as why
use Rattle.hub_terms.specs.Hubs.{worker_count}
use Rattle.hub_terms.specs.Systems.{SystemState}
use Rattle.hub_terms.specs.InStep.{IsInStep}
use Rattle.hub_terms.specs.Valid.{IsValid}
use Rattle.round_laws.specs.Rounds.{RoundsAreNear}
use Rattle.round_laws.specs.OnTime.{IsOnTime, StopsOnlySpent}

-- where a worker has no replacement, it is one of the workers
abbrev pub NamesWorker : SystemState → Type 0
NamesWorker s = (k : ℕ) → s.hub.halt ≡ Some (why.NoReplacement k) → k < worker_count s.hub

-- Hub and worlds are in step, the state is valid for the class of its program, live workers stand near to each other, the state is
-- on time, it stops for want of rounds only where they were spent, and for want of a replacement it names a worker.
pub record KeepsAll (s : SystemState) : Type 0 where
  pub in_step : IsInStep s
  pub valid : IsValid s
  pub near : RoundsAreNear s.hub
  pub on_time : IsOnTime s
  pub spent : StopsOnlySpent s
  pub named : NamesWorker s
