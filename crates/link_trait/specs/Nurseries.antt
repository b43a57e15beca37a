-- A nursery as contracts see it, and what lending and taking back leave.
use Rattle.std.specs.Prelude.{◌≡◌, ℕ, ◌-◌, ◌≤◌, Bool, true, false, List, [], ◌++◌, All, length, map, flat_map, None}
use Rattle.px_base.specs.Values.{positions_below, by_position}
use Rattle.link_trait.specs.Counts.{all_more_by}
use Rattle.link_trait.specs.Plans.{Plan, LentAs}
use Rattle.link_trait.specs.Spawners.{Retired, SpawnerView}

-- A nursery: whether its spawners are lent; how many the last lending gave, and its mark; for each worker the starts, the
-- faults and the ends that came back with its spawners; the retired links; for how many lists of them there is room; whether
-- its links tell their peers; and the plan.
pub record NurseryView : Type 0 where
  pub lent : Bool
  pub count : ℕ
  pub mark : LentAs
  pub starts : List ℕ
  pub faults : List ℕ
  pub ends : List ℕ
  pub retired : List Retired
  pub room : ℕ
  pub tells : Bool
  pub plan : Plan

-- there is a count for each of 64 workers
pub record HasCounts (nursery : NurseryView) : Type 0 where
  pub starts : length nursery.starts ≡ 64
  pub faults : length nursery.faults ≡ 64
  pub ends : length nursery.ends ≡ 64

-- the same, with room for so many lists
abbrev pub with_room : NurseryView → ℕ → NurseryView
with_room nursery room = record nursery { room = room }

-- the spawner of worker k when it is lent
abbrev pub new_spawner : NurseryView → ℕ → SpawnerView
new_spawner nursery k = record {
  worker = k;
  starts = 0;
  faults = 0;
  ends = 0;
  retired = [];
  lent_as = nursery.mark;
  out = None;
  tells = nursery.tells;
  plan = nursery.plan;
}

-- So many spawners were lent, one for each worker from 0 on, and there is room for their lists of retired links. Nothing
-- else has changed.
pub record IsLent (old new : NurseryView) (count : ℕ) (all : List SpawnerView) : Type 0 where
  pub nursery : new ≡ record old { lent = true; count = count; mark = new.mark; room = new.room }
  pub room : count ≤ new.room
  pub spawners : all ≡ by_position count (new_spawner new)
  pub one_each : HasCounts new

-- These are the spawners that the last lending gave, in order, and none has a link out. They are still lent.
pub record AreBack (nursery : NurseryView) (spawners : List SpawnerView) : Type 0 where
  pub lent : nursery.lent ≡ true
  pub in_order : map (λ s. s.worker) spawners ≡ positions_below nursery.count
  pub marked : All (λ s. s.lent_as ≡ nursery.mark) spawners
  pub none_out : All (λ s. s.out ≡ None) spawners
  pub room : nursery.count ≤ nursery.room

-- after these spawners came back: their counts are added, and their retired links follow
abbrev pub after_return : NurseryView → List SpawnerView → NurseryView
after_return nursery spawners = record nursery {
  lent = false;
  starts = all_more_by nursery.starts (map (λ s. s.starts) spawners);
  faults = all_more_by nursery.faults (map (λ s. s.faults) spawners);
  ends = all_more_by nursery.ends (map (λ s. s.ends) spawners);
  retired = nursery.retired ++ flat_map (λ s. s.retired) spawners;
  room = nursery.room - length spawners;
}

-- the spawners were taken back
pub record IsTakenBack (old new : NurseryView) (spawners : List SpawnerView) : Type 0 where
  pub nursery : new ≡ after_return old spawners
