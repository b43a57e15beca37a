-- What a run leaves, by how it ended. Old and new are the nursery before and after.
use Rattle.std.specs.Prelude.{◌≡◌, ℕ, ◌+◌, ◌<◌, ◌≤◌, Bool, true, false, List, ◌++◌, length, map, sum, drop, slice_index, All, Result, Ok, Err, Option, Some, None, ⊤}
use Rattle.std.specs.List.{flat_map}
use Rattle.px_base.specs.declared.wire.Loss.{Loss}
use Rattle.px_base.specs.declared.wire.LossKind.TheVariants.{Ended}
use Rattle.px_base.specs.Values.{IsValueList, positions_below}
use Rattle.px_base.specs.Worlds.{masters_of}
use Rattle.hub_terms.specs.declared.stops.Why.TheVariants as why
use Rattle.hub_terms.specs.Jobs.{job_of}
use Rattle.hub_terms.specs.Hubs.{reported_values}
use Rattle.hub_terms.specs.InStep.{IsWorldOf, round_of}
use Rattle.hub_terms.specs.Systems.{SystemState}
use Rattle.hub_terms.specs.Valid.{IsCoreAnswer}
use Rattle.round_laws.specs.OnTime.{rounds_enough}
use Rattle.link_trait.specs.Counts.{HasRisen}
use Rattle.link_trait.specs.Links.{LinkView}
use Rattle.link_trait.specs.Nurseries.{NurseryView}
use Rattle.link_trait.specs.Spawners.{Retired, SpawnerView, discarded, retired}
use Rattle.driver_laws.specs.declared.job.Job.{Job}
use Rattle.driver_laws.specs.declared.endings.Finished.{Finished}
use Rattle.driver_laws.specs.declared.endings.Stop.{Stop}
use Rattle.driver_laws.specs.declared.endings.Stop.TheVariants as stop
use Rattle.driver_laws.specs.Jobs.{job_part, vertices}
use Rattle.driver_laws.specs.Seats.{HasRisenBy, ended_count, naming}

-- ---- what is the same however it ended

-- There are as many counts as before, and none has fallen. Each stops at its last value.
pub record NoneFell (before now : List ℕ) : Type 0 where
  pub places : length now ≡ length before
  pub each : (k : ℕ) → HasRisenBy 0 (slice_index before k) (slice_index now k)

-- the links that were retired since
abbrev pub retired_since : NurseryView → NurseryView → List Retired
retired_since old new = drop (length old.retired) new.retired

-- All spawners were taken back: none is lent, the plan is as before, and so is whether links tell; no count of starts, faults or ends
-- has fallen; what was retired before stays, and where the links don't tell that is all.
pub record IsBack (old new : NurseryView) : Type 0 where
  pub lent : new.lent ≡ false
  pub plan : new.plan ≡ old.plan
  pub tells : new.tells ≡ old.tells
  pub starts : NoneFell old.starts new.starts
  pub faults : NoneFell old.faults new.faults
  pub ends : NoneFell old.ends new.ends
  pub retired : new.retired ≡ old.retired ++ retired_since old new
  pub untold : old.tells ≡ false → new.retired ≡ old.retired

-- ---- links that were retired, and losses

-- One link of each worker was retired, in order, and its world is one of the worker's part.
pub record AreOfParts (job : Job) (links : List Retired) : Type 0 where
  pub in_order : map (λ r. r.worker) links ≡ positions_below job.workers
  pub worlds : All (λ r. IsWorldOf (job_part job r.worker) job.core r.world) links

-- each of these links has answered two calls or more, and a Report among them
abbrev pub HaveReported : List Retired → Type 0
HaveReported links = All (λ r. (2 ≤ r.calls) × (1 ≤ r.reports)) links

-- These were losses of the job's workers. Links that tell their peers are lost only by ending, and so many links as are said to have
-- ended did.
pub record AreLosses (job : Job) (old new : NurseryView) (losses : List Loss) : Type 0 where
  pub workers : All (λ loss. loss.worker < job.workers) losses
  pub kinds : old.tells ≡ true → All (λ loss. loss.kind ≡ Ended) losses
  pub ends : (k : ℕ) → k < job.workers → HasRisenBy (ended_count (naming k losses)) (slice_index old.ends k) (slice_index new.ends k)

-- ---- finished

-- The run has finished. There is a value for each vertex; where the links tell, these are the core answer, and the masters of the
-- links that were retired, one of each part, which all have reported. One link was started for each worker, and one for each loss.
pub record IsFinished (job : Job) (old new : NurseryView) (finished : Finished) : Type 0 where
  pub values : IsValueList (vertices job) finished.values
  pub answer : old.tells ≡ true → IsCoreAnswer (job_of job.graph job.core job.starts) finished.values
  pub masters : old.tells ≡ true → finished.values ≡ flat_map (λ r. masters_of r.world) (retired_since old new)
  pub parts : old.tells ≡ true → AreOfParts job (retired_since old new)
  pub reported : old.tells ≡ true → HaveReported (retired_since old new)
  pub losses : AreLosses job old new finished.losses
  pub few : length finished.losses ≤ job.limits.losses
  pub starts : sum new.starts ≡ sum old.starts + job.workers + length finished.losses

-- ---- stopped

-- There was no replacement for this worker: a start of its spawner was refused. No more links were started than there are workers and
-- losses that are allowed, and none was retired.
pub record IsRefused (job : Job) (old new : NurseryView) (worker : ℕ) : Type 0 where
  pub one : worker < job.workers
  pub faults : HasRisen (slice_index old.faults worker) (slice_index new.faults worker)
  pub starts : sum new.starts ≤ sum old.starts + job.workers + job.limits.losses
  pub retired : new.retired ≡ old.retired

-- There were more losses than are allowed. No more links were started than there are workers and losses, and none was retired.
pub record IsTooMany (job : Job) (old new : NurseryView) (losses : List Loss) : Type 0 where
  pub more : job.limits.losses < length losses
  pub counted : AreLosses job old new losses
  pub starts : sum new.starts ≤ sum old.starts + job.workers + length losses
  pub retired : new.retired ≡ old.retired

-- The rounds were spent: where the links tell, that of each worker was retired, and had made its last Step in the last round that is
-- allowed. With lag 0 and rounds enough for the graph this never comes.
pub record IsSpent (job : Job) (old new : NurseryView) (base : ℕ) : Type 0 where
  pub parts : old.tells ≡ true → AreOfParts job (retired_since old new)
  pub rounds : old.tells ≡ true → All (λ r. round_of r.world + 1 ≡ base + job.limits.rounds) (retired_since old new)
  pub wanting : old.tells ≡ true → job.limits.lag ≡ 0 → job.limits.rounds < rounds_enough (vertices job)
  pub starts : sum new.starts ≤ sum old.starts + job.workers + job.limits.losses

-- The run has stopped, for this cause. Memory may be wanting at any time.
abbrev pub HasStopped : Job → NurseryView → NurseryView → Stop → Type 0
HasStopped job old new (stop.NoReplacement worker) = IsRefused job old new worker
HasStopped job old new (stop.TooManyLosses losses) = IsTooMany job old new losses
HasStopped job old new (stop.Budget base) = IsSpent job old new base
HasStopped job old new stop.Memory = new.retired ≡ old.retired

-- ---- on the way there

-- the outcome is the one that the state has come to; memory may be wanting for it
abbrev pub IsOutcome : SystemState → Result Finished Stop → Type 0
IsOutcome s (Ok finished) = (s.hub.halt ≡ None) × (finished.values ≡ reported_values s.hub) × IsValueList (length s.job.rows) finished.values × (finished.losses ≡ s.hub.members.losses)
IsOutcome s (Err (stop.NoReplacement worker)) = s.hub.halt ≡ Some (why.NoReplacement worker)
IsOutcome s (Err (stop.TooManyLosses losses)) = (s.hub.halt ≡ Some why.TooManyLosses) × (losses ≡ s.hub.members.losses)
IsOutcome s (Err (stop.Budget base)) = (s.hub.halt ≡ Some why.Budget) × (base ≡ s.hub.members.base)
IsOutcome s (Err stop.Memory) = ⊤

-- the links are retired after an answer, and where the rounds were spent; else they are discarded
abbrev pub keeps_links : Result Finished Stop → Bool
keeps_links (Ok finished) = true
keeps_links (Err (stop.NoReplacement worker)) = false
keeps_links (Err (stop.TooManyLosses losses)) = false
keeps_links (Err (stop.Budget base)) = true
keeps_links (Err stop.Memory) = false

-- the spawner after its link was retired, or discarded, where one is out
abbrev pub released : Bool → SpawnerView → Option LinkView → SpawnerView
released keep p None = p
released true p (Some l) = retired p l
released false p (Some l) = discarded p l
