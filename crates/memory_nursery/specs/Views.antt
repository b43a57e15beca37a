-- What the fields of links, spawners and nurseries in memory mean.
use Rattle.std.specs.Prelude.{◌≡◌, ◌-◌, ◌<◌, true, flat_map, slice_index, Some, None, vec_len, vec_capacity, option_map, IsSome}
use Rattle.link_trait.specs.Links.{LinkView}
use Rattle.link_trait.specs.Spawners.{Retired}
use Rattle.memory_nursery.specs.Scripts.{losses_of, refused_starts}
use Rattle.memory_nursery.specs.States.{SpawnerState, NurseryState}
use Rattle.memory_nursery.specs.Tallies.{nursery_of}
use Rattle.memory_nursery.specs.Keeping.{KeepsLink, KeepsSpawner, KeepsNursery}
use Rattle.memory_nursery.specs.declared.mem_link.MemLink.TheInside as link
use Rattle.memory_nursery.specs.declared.mem_link.RetiredLink.TheInside as retired
use Rattle.memory_nursery.specs.declared.mem_spawner.MemSpawner.TheInside as spawner
use Rattle.memory_nursery.specs.declared.mem_nursery.MemNursery.TheInside as nursery

-- ---- links

-- what a link's fields mean
abbrev pub link_view : link.Inside → LinkView
link_view l = record {
  worker = l.worker;
  mark = record { plan = l.plan; number = l.number };
  peer = Some l.world;
  calls = l.calls;
  reports = l.reports;
  alive = l.alive;
  ends = l.ends;
  refused = None;
}

-- what they keep
abbrev pub IsMemLink : link.Inside → Type 0
IsMemLink l = KeepsLink (link_view l) l.moments.items

-- what the fields of a retired link mean
abbrev pub retired_view : retired.Inside → Retired
retired_view r = record {
  worker = r.worker;
  mark = record { plan = r.plan; number = r.number };
  world = r.world;
  calls = r.calls;
  reports = r.reports;
}

-- ---- spawners

-- what a spawner's fields mean
abbrev pub spawner_view : spawner.Inside → SpawnerState
spawner_view s = record {
  spawner = record {
    worker = s.worker;
    starts = s.starts;
    faults = s.faults;
    ends = s.ends;
    retired = s.retired.items;
    lent_as = s.lent_as;
    out = option_map (λ number. record { plan = s.lent_as.plan; number = number }) s.out;
    tells = true;
    plan = s.lent_as.plan;
  };
  links = s.links;
}

-- what they keep
pub record IsMemSpawner (s : spawner.Inside) : Type 0 where
  pub keeps : KeepsSpawner (spawner_view s)
  pub losses : s.losses.items ≡ losses_of s.lent_as.plan s.worker
  pub refused : s.refused.items ≡ refused_starts s.lent_as.plan s.worker
  pub starts : s.starts_before ≡ slice_index s.lent_as.starts s.worker
  pub links : s.links_before ≡ slice_index s.lent_as.links s.worker
  pub room : IsSome s.out → vec_len s.retired < vec_capacity s.retired

-- ---- nurseries

-- what a nursery's fields mean
abbrev pub nursery_view : nursery.Inside → NurseryState
nursery_view n = nursery_of n.lent n.count n.mark n.counts (flat_map (λ list. list.items) n.retired.items) (vec_capacity n.retired - vec_len n.retired) n.plan

-- what they keep
pub record IsMemNursery (n : nursery.Inside) : Type 0 where
  pub keeps : KeepsNursery (nursery_view n)
  pub losses : n.plan.losses ≡ n.losses.items
  pub refusals : n.plan.refusals ≡ n.refusals.items
