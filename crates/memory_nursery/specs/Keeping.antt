-- What links, spawners and nurseries in memory keep, so that their scripts come true.
use Rattle.std.specs.Prelude.{◌≡◌, ℕ, ◌+◌, ◌^◌, ◌<◌, ◌≤◌, true, nat_lt, nat_le, List, [], All, length, count_by, drop, slice_index, Option, Some, None, ⊤}
use Rattle.px_io.specs.Causes.{LAST, one_more}
use Rattle.link_trait.specs.declared.scripts.Moment.{Moment}
use Rattle.link_trait.specs.declared.scripts.Scripted.{Scripted}
use Rattle.link_trait.specs.Counts.{more_by}
use Rattle.link_trait.specs.Plans.{LinkMark}
use Rattle.link_trait.specs.Links.{LinkView}
use Rattle.link_trait.specs.Spawners.{Retired}
use Rattle.link_trait.specs.Nurseries.{HasCounts}
use Rattle.memory_nursery.specs.Scripts.{IsAhead, losses_of, moments_of, refused_starts}
use Rattle.memory_nursery.specs.States.{SpawnerState, NurseryState, next_link, next_mark, IsOnScript}

-- ---- a link

-- A link whose moments these are has answered no call at which it was to end, and has ended at most once, and only where that
-- was scripted.
pub record KeepsLink (link : LinkView) (moments : List Moment) : Type 0 where
  pub scripted : moments ≡ moments_of link.mark.plan link.worker link.mark.number
  pub ahead : All (IsAhead link.calls link.reports) moments
  pub ends : link.ends ≤ length moments
  pub living : link.alive ≡ true → link.ends ≡ 0
  pub late : 2 ^ 32 ≤ link.mark.number → moments ≡ []

-- ---- a spawner

-- how many of the losses are of links whose number is below n
abbrev pub losses_below : ℕ → List Scripted → ℕ
losses_below n losses = count_by (λ s. nat_lt s.link n) losses

-- how many of the refused starts have a number up to n
abbrev pub refused_up_to : ℕ → List ℕ → ℕ
refused_up_to n starts = count_by (λ start. nat_le start n) starts

-- how many starts of the worker there were before this spawner was lent, since the scripts were put
abbrev pub starts_before : SpawnerState → ℕ
starts_before s = slice_index s.spawner.lent_as.starts s.spawner.worker

-- how many links there were
abbrev pub links_before : SpawnerState → ℕ
links_before s = slice_index s.spawner.lent_as.links s.spawner.worker

-- how many starts there are with those of this spawner
abbrev pub starts_so_far : SpawnerState → ℕ
starts_so_far s = more_by (starts_before s) s.spawner.starts

-- the number of the link that is out, or of the next one where none is
abbrev pub first_at_large : ℕ → Option LinkMark → ℕ
first_at_large next None = next
first_at_large next (Some mark) = mark.number

-- where a link is out, it is the one that was started last
abbrev pub IsLast : SpawnerState → Option LinkMark → Type 0
IsLast s None = ⊤
IsLast s (Some mark) = (mark.plan ≡ s.spawner.plan) × (next_link s ≡ one_more mark.number) × (mark.number ≤ LAST)

-- The retired link is one of this spawner, or has the last number of all.
pub record IsOfSpawner (s : SpawnerState) (r : Retired) : Type 0 where
  pub worker : r.worker ≡ s.spawner.worker
  pub number : next_link s < LAST → r.mark.number < next_link s
  pub script : IsOnScript s.spawner.plan r

-- Each end is one of a link that was scripted to end, each fault is a start that was to be refused, and each other start
-- gave at most one link.
pub record KeepsSpawner (s : SpawnerState) : Type 0 where
  pub plan : s.spawner.plan ≡ s.spawner.lent_as.plan
  pub few_links : links_before s ≤ LAST
  pub few_starts : starts_before s ≤ LAST
  pub ends : s.spawner.ends + losses_below (links_before s) (losses_of s.spawner.plan s.spawner.worker)
      ≤ losses_below (first_at_large (next_link s) s.spawner.out) (losses_of s.spawner.plan s.spawner.worker)
  pub faults : s.spawner.faults + refused_up_to (starts_before s) (refused_starts s.spawner.plan s.spawner.worker)
      ≤ refused_up_to (starts_so_far s) (refused_starts s.spawner.plan s.spawner.worker)
  pub numbers : s.links + s.spawner.faults ≤ s.spawner.starts
  pub retired : All (IsOfSpawner s) s.spawner.retired
  pub out : IsLast s s.spawner.out

-- ---- a nursery

-- The same of what came back for worker w.
pub record IsTallied (n : NurseryState) (w : ℕ) : Type 0 where
  pub ends : slice_index n.nursery.ends w ≤ slice_index n.nursery.plan.ends w + losses_below (slice_index n.links w) (losses_of n.nursery.plan w)
  pub faults : slice_index n.nursery.faults w ≤ slice_index n.nursery.plan.faults w + refused_up_to (slice_index n.starts w) (refused_starts n.nursery.plan w)
  pub numbers : slice_index n.nursery.starts w < LAST →
      slice_index n.nursery.plan.starts w + slice_index n.links w + slice_index n.nursery.faults w ≤ slice_index n.nursery.starts w + slice_index n.nursery.plan.faults w
  pub later : slice_index n.nursery.plan.faults w ≤ slice_index n.nursery.faults w
  pub few : slice_index n.nursery.faults w ≤ LAST

-- The retired link is one of a worker that has a place, or has the last number of all.
pub record IsOfNursery (n : NurseryState) (r : Retired) : Type 0 where
  pub worker : r.worker < 64
  pub number : slice_index n.links r.worker < LAST → r.mark.number < slice_index n.links r.worker
  pub script : IsOnScript n.nursery.plan r

-- what every nursery in memory keeps
pub record KeepsNursery (n : NurseryState) : Type 0 where
  pub one_each : HasCounts n.nursery
  pub start_counts : length n.starts ≡ 64
  pub link_counts : length n.links ≡ 64
  pub few : n.nursery.count ≤ 64
  pub marked : n.nursery.lent ≡ true → n.nursery.mark ≡ next_mark n
  pub tallied : (w : ℕ) → w < 64 → IsTallied n w
  pub before : n.nursery.plan.retired ≤ length n.nursery.retired
  pub retired : All (IsOfNursery n) (drop n.nursery.plan.retired n.nursery.retired)
