-- How the spawner and the link of each worker go with the state of the run.
use Rattle.std.specs.Prelude.{◌≡◌, ℕ, ◌+◌, ◌<◌, ◌≤◌, Bool, true, false, ◌==◌, List, [], filter, length, map, count_by, All, slice_index_or, if◌then◌else◌, Option, Some, None}
use Rattle.px_base.specs.declared.wire.Loss.{Loss}
use Rattle.px_base.specs.declared.wire.LossKind.{LossKind}
use Rattle.px_base.specs.declared.wire.LossKind.TheVariants.{Ended, Broke}
use Rattle.hub_terms.specs.Hubs.{order_at, reported_at, worker_at, worker_count}
use Rattle.hub_terms.specs.Seats.{names_worker}
use Rattle.hub_terms.specs.Systems.{SystemState, world_at}
use Rattle.link_trait.specs.Counts.{more_by}
use Rattle.link_trait.specs.Links.{LinkView}
use Rattle.link_trait.specs.Plans.{LentAs}
use Rattle.link_trait.specs.Spawners.{SpawnerView, IsLinkOf}

-- ---- losses

-- the loss is that a link ended
abbrev pub is_ended : LossKind → Bool
is_ended Ended = true
is_ended (Broke fault) = false

-- how many of these losses are that a link ended
abbrev pub ended_count : List Loss → ℕ
ended_count losses = count_by (λ loss. is_ended loss.kind) losses

-- those that name the worker
abbrev pub naming : ℕ → List Loss → List Loss
naming worker losses = filter (λ loss. loss.worker == worker) losses

-- the losses of worker i that were noted
abbrev pub losses_of : SystemState → ℕ → List Loss
losses_of s i = naming i s.hub.members.losses

-- The count rose by so many from before till now, or by more. It stops at its last value.
abbrev pub HasRisenBy : ℕ → ℕ → ℕ → Type 0
HasRisenBy times before now = more_by before times ≤ now

-- ---- one worker

-- The spawner is the one of worker i, and no link of it was retired.
pub record IsSpawnerOf (s : SystemState) (i : ℕ) (p : SpawnerView) : Type 0 where
  pub worker : p.worker ≡ i
  pub tells : p.tells ≡ s.told
  pub retired : p.retired ≡ []

-- What the counts of worker i's spawner say: it started a link once, and again after each loss, and no further while nothing stops the
-- run, but for one start that gave none; links that tell are lost only by ending, and each such end is counted; and where the run
-- stops since there is no replacement for the worker, a start of its spawner was refused.
pub record CountsLosses (s : SystemState) (i : ℕ) (p : SpawnerView) : Type 0 where
  pub few_starts : p.starts ≤ s.hub.members.limits.losses + 1
  pub most_starts : p.starts ≤ length (losses_of s i) + 1
  pub starts : s.hub.halt ≡ None → p.starts ≡ length (losses_of s i) + (if (worker_at s.hub i).live then 1 else 0)
  pub kinds : s.told ≡ true → All (λ loss. loss.kind ≡ Ended) (losses_of s i)
  pub ends : HasRisenBy (ended_count (losses_of s i)) 0 p.ends
  pub refused : names_worker i s.hub.halt ≡ true → 1 ≤ p.faults

-- Where the links tell, that of worker i has answered a call once the worker isn't due, and a Report and another call once it has
-- reported in this epoch.
pub record HasAnswered (s : SystemState) (i : ℕ) (l : LinkView) : Type 0 where
  pub once : s.told ≡ true → (worker_at s.hub i).due ≡ false → 1 ≤ l.calls
  pub twice : s.told ≡ true → (values : List ℕ) → reported_at s.hub i ≡ Some values → (2 ≤ l.calls) × (1 ≤ l.reports)

-- Worker i is missing, and no link of its spawner is out.
pub record IsMissing (s : SystemState) (i : ℕ) (p : SpawnerView) : Type 0 where
  pub spawner : IsSpawnerOf s i p
  pub counts : CountsLosses s i p
  pub out : p.out ≡ None
  pub missing : (worker_at s.hub i).live ≡ false

-- Worker i is live, and this link of its spawner is out, whose peer is the worker's world.
pub record IsLinked (s : SystemState) (i : ℕ) (p : SpawnerView) (l : LinkView) : Type 0 where
  pub spawner : IsSpawnerOf s i p
  pub counts : CountsLosses s i p
  pub link : IsLinkOf p l
  pub alive : l.alive ≡ true
  pub peer : l.peer ≡ world_at s i
  pub live : (worker_at s.hub i).live ≡ true
  pub answered : HasAnswered s i l

-- spawner and link of worker i go with the state
abbrev pub Fits : SystemState → ℕ → SpawnerView → Option LinkView → Type 0
Fits s i p None = IsMissing s i p
Fits s i p (Some l) = IsLinked s i p l

-- ---- all workers

-- Spawner and link of each worker go with the state, and no worker has an order.
pub record IsInTune (s : SystemState) (spawners : List SpawnerView) (links : List (Option LinkView)) : Type 0 where
  pub spawner_count : length spawners ≡ worker_count s.hub
  pub link_count : length links ≡ worker_count s.hub
  pub each : (i : ℕ) → i < worker_count s.hub → (p : SpawnerView) → Fits s i (slice_index_or spawners i p) (slice_index_or links i None)
  pub idle : (i : ℕ) → order_at s.hub i ≡ None

-- the marks of the lending that the spawners have
abbrev pub marks_of : List SpawnerView → List LentAs
marks_of spawners = map (λ p. p.lent_as) spawners
