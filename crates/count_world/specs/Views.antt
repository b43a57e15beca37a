-- What the fields of a world mean.
use Rattle.px_base.specs.Worlds.{CountWorld}
use Rattle.count_world.specs.declared.world.CountWorld.TheInside.{Inside}
use Rattle.count_world.specs.Kept.{KeepsCounts, IsReady}

-- the world that the fields hold
abbrev pub counting_of : Inside → CountWorld
counting_of w = record {
  part = w.part;
  needed = w.known.census.needed;
  epoch = w.epoch;
  round = w.round;
  alive = w.known.census.alive.items;
  counts = w.known.census.counts.items;
}

-- what the fields keep
pub record IsKept (w : Inside) : Type 0 where
  pub world : KeepsCounts (counting_of w)
  pub ready : IsReady w.part w.known
