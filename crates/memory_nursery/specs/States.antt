-- Spawners and nurseries in memory, as contracts see them, and what their calls leave.
use Rattle.std.specs.Prelude.{◌≡◌, ℕ, ◌+◌, ◌-◌, ◌<◌, ◌≤◌, Bool, true, false, List, [], All, length, map, replicate, drop, slice_index, if◌then◌else◌, Some, None}
use Rattle.px_base.specs.declared.graph.Part.{Part}
use Rattle.px_base.specs.declared.program.CoreProgram.{CoreProgram}
use Rattle.px_base.specs.Values.{by_position, is_listed}
use Rattle.px_io.specs.Causes.{LAST, one_more}
use Rattle.link_trait.specs.declared.scripts.Scripted.{Scripted}
use Rattle.link_trait.specs.declared.scripts.Refusal.{Refusal}
use Rattle.link_trait.specs.Counts.{more_by, all_more_by}
use Rattle.link_trait.specs.Plans.{Plan, LentAs}
use Rattle.link_trait.specs.Links.{LinkView}
use Rattle.link_trait.specs.Spawners.{Retired, SpawnerView, new_peer, not_started}
use Rattle.link_trait.specs.Nurseries.{NurseryView, after_return, IsLent, new_spawner}
use Rattle.memory_nursery.specs.Scripts.{IsAhead, losses_of, moments_of, refused_starts}

-- ---- spawners

-- A spawner in memory: what every spawner shows, and how many links it has started.
pub record SpawnerState : Type 0 where
  pub spawner : SpawnerView
  pub links : ℕ

-- The number of its next start, among those of its worker since the scripts were put.
abbrev pub next_start : SpawnerState → ℕ
next_start s = more_by (slice_index s.spawner.lent_as.starts s.spawner.worker) (s.spawner.starts + 1)

-- the number of its next link, among those of its worker since the scripts were put
abbrev pub next_link : SpawnerState → ℕ
next_link s = more_by (slice_index s.spawner.lent_as.links s.spawner.worker) s.links

-- its next start is one that is to be refused
abbrev pub refuses_next : SpawnerState → Bool
refuses_next s = is_listed (refused_starts s.spawner.plan s.spawner.worker) (next_start s)

-- the link that it starts next
abbrev pub new_link : SpawnerState → Part → CoreProgram → LinkView
new_link s part core = record {
  worker = s.spawner.worker;
  mark = record { plan = s.spawner.plan; number = next_link s };
  peer = new_peer s.spawner.tells part core;
  calls = 0;
  reports = 0;
  alive = true;
  ends = 0;
  refused = None;
}

-- after that link was started
abbrev pub with_link : SpawnerState → SpawnerState
with_link s = record {
  spawner = record s.spawner { starts = s.spawner.starts + 1; out = Some (record { plan = s.spawner.plan; number = next_link s }) };
  links = s.links + 1;
}

-- after a start that gave no link: a refused one counts as a fault, and no other does
abbrev pub without_start : SpawnerState → SpawnerState
without_start s = record s { spawner = not_started s.spawner (if refuses_next s then one_more s.spawner.faults else s.spawner.faults) }

-- ---- nurseries

-- A nursery in memory: what every nursery shows, and how many starts and links of each worker there were since the scripts were
-- put.
pub record NurseryState : Type 0 where
  pub nursery : NurseryView
  pub starts : List ℕ
  pub links : List ℕ

-- a count of 0 for each of 64 workers
abbrev pub no_counts : List ℕ
no_counts = replicate 64 0

-- the plan of these scripts, as things stand now
abbrev pub plan_now : NurseryView → List Scripted → List Refusal → Plan
plan_now nursery losses refusals = record {
  losses = losses;
  refusals = refusals;
  retired = length nursery.retired;
  starts = nursery.starts;
  faults = nursery.faults;
  ends = nursery.ends;
}

-- the mark of the next lending
abbrev pub next_mark : NurseryState → LentAs
next_mark n = record { plan = n.nursery.plan; starts = n.starts; links = n.links }

-- a plan of no scripts, before anything happened
abbrev pub no_plan : Plan
no_plan = record { losses = []; refusals = []; retired = 0; starts = no_counts; faults = no_counts; ends = no_counts }

-- the mark of a lending before anything happened
abbrev pub no_mark : LentAs
no_mark = record { plan = no_plan; starts = no_counts; links = no_counts }

-- a nursery before anything happened, without scripts
abbrev pub bare_nursery : NurseryView
bare_nursery = record {
  lent = false;
  count = 0;
  mark = no_mark;
  starts = no_counts;
  faults = no_counts;
  ends = no_counts;
  retired = [];
  room = 0;
  tells = true;
  plan = no_plan;
}

-- with these scripts from now on: the numbers of starts and of links begin anew
abbrev pub scripted : NurseryState → List Scripted → List Refusal → NurseryState
scripted n losses refusals = record {
  nursery = record n.nursery { plan = plan_now n.nursery losses refusals };
  starts = no_counts;
  links = no_counts;
}

-- a new nursery with these scripts
abbrev pub new_nursery : List Scripted → List Refusal → NurseryState
new_nursery losses refusals = scripted (record { nursery = bare_nursery; starts = no_counts; links = no_counts }) losses refusals

-- the spawner of worker k as the next lending gives it
abbrev pub new_spawner_state : NurseryState → ℕ → SpawnerState
new_spawner_state n k = record { spawner = new_spawner (record n.nursery { mark = next_mark n }) k; links = 0 }

-- So many spawners were lent, with the mark that tells how many starts and links there were so far.
pub record AreLentBy (old new : NurseryState) (count : ℕ) (all : List SpawnerState) : Type 0 where
  pub nursery : new ≡ record old { nursery = record old.nursery { lent = true; count = count; mark = next_mark old; room = new.nursery.room } }
  pub room : count ≤ new.nursery.room
  pub spawners : all ≡ by_position count (new_spawner_state old)
  pub lent : IsLent old.nursery new.nursery count (map (λ s. s.spawner) all)

-- after these spawners came back: the numbers of starts and of links go on
abbrev pub taken_back : NurseryState → List SpawnerState → NurseryState
taken_back n all = record {
  nursery = after_return n.nursery (map (λ s. s.spawner) all);
  starts = all_more_by n.starts (map (λ s. s.spawner.starts) all);
  links = all_more_by n.links (map (λ s. s.links) all);
}

-- ---- what the scripts bring about

-- The retired link's number is below the number of starts of its worker since the scripts were put, less those that were
-- refused. This is said while the count of starts hasn't come to its last value.
abbrev pub IsNumbered : NurseryView → Retired → Type 0
IsNumbered n r = slice_index n.starts r.worker < LAST →
    r.mark.number < (slice_index n.starts r.worker - slice_index n.plan.starts r.worker) - (slice_index n.faults r.worker - slice_index n.plan.faults r.worker)

-- the retired link answered no call at which it was to end
abbrev pub IsOnScript : Plan → Retired → Type 0
IsOnScript plan r = All (IsAhead r.calls r.reports) (moments_of plan r.worker r.mark.number)

-- Since the scripts were put, the ends of each worker rose by at most the number of losses that are scripted for it, and its
-- faults by at most the number of refusals; and each link that was retired since then has a number among those that were
-- started, and answered no call at which it was to end.
pub record KeepsScripts (n : NurseryView) : Type 0 where
  pub ends : (w : ℕ) → slice_index n.ends w ≤ slice_index n.plan.ends w + length (losses_of n.plan w)
  pub faults : (w : ℕ) → slice_index n.faults w ≤ slice_index n.plan.faults w + length (refused_starts n.plan w)
  pub before : n.plan.retired ≤ length n.retired
  pub numbers : All (IsNumbered n) (drop n.plan.retired n.retired)
  pub scripted : All (IsOnScript n.plan) (drop n.plan.retired n.retired)
