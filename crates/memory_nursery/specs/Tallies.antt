-- What a nursery in memory counts for each worker, once spawners came back.
use Rattle.std.specs.Prelude.{ℕ, Bool, true, List, [], ◌∷◌, map}
use Rattle.link_trait.specs.Counts.{more_by}
use Rattle.link_trait.specs.Plans.{Plan, LentAs}
use Rattle.link_trait.specs.Spawners.{Retired}
use Rattle.memory_nursery.specs.States.{SpawnerState, NurseryState}
use Rattle.memory_nursery.specs.declared.counts.WorkerCounts.{WorkerCounts}

-- the counts of a worker whose spawner came back
abbrev pub with_spawner : WorkerCounts → SpawnerState → WorkerCounts
with_spawner c s = record {
  starts = more_by c.starts s.spawner.starts;
  faults = more_by c.faults s.spawner.faults;
  ends = more_by c.ends s.spawner.ends;
  starts_since = more_by c.starts_since s.spawner.starts;
  links_since = more_by c.links_since s.links;
}

-- the counts of a worker whose numbers begin anew
abbrev pub begun_anew : WorkerCounts → WorkerCounts
begun_anew c = record c { starts_since = 0; links_since = 0 }

-- the counts of all workers once the spawners of the first of them came back
abbrev pub with_spawners : List WorkerCounts → List SpawnerState → List WorkerCounts
with_spawners counts [] = counts
with_spawners [] (s ∷ all) = []
with_spawners (c ∷ counts) (s ∷ all) = with_spawner c s ∷ with_spawners counts all

-- a nursery with these counts
abbrev pub nursery_of : Bool → ℕ → LentAs → List WorkerCounts → List Retired → ℕ → Plan → NurseryState
nursery_of lent count mark counts retired room plan = record {
  nursery = record {
    lent = lent;
    count = count;
    mark = mark;
    starts = map (λ c. c.starts) counts;
    faults = map (λ c. c.faults) counts;
    ends = map (λ c. c.ends) counts;
    retired = retired;
    room = room;
    tells = true;
    plan = plan;
  };
  starts = map (λ c. c.starts_since) counts;
  links = map (λ c. c.links_since) counts;
}
