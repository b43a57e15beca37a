-- What the fields of a world mean.
use Rattle.std.specs.Prelude.{◌≡◌, ◌≤◌, take, drop}
use Rattle.px_base.specs.Worlds.{World, of_values, ValueWorld}
use Rattle.worker_world.specs.declared.value_world.ValueWorld.TheInside.{Inside}
use Rattle.worker_world.specs.Kept.{KeepsLimits}
use Rattle.worker_world.specs.ByPlace.{IsByPlace, AreSettled}
use Rattle.placed_parts.specs.Places.{master_count}

-- the values that the fields hold, with their part and program: those of the masters stand first
abbrev pub values_of : Inside → ValueWorld
values_of w = record {
  part = w.part;
  core = w.core;
  epoch = w.epoch;
  round = w.round;
  masters = take (master_count w.part) w.known.values.items;
  mirrors = drop (master_count w.part) w.known.values.items;
}

-- the world that the fields hold
abbrev pub world_of : Inside → World
world_of w = of_values (values_of w)

-- What the fields keep. Between steps the mirrors have the same values in both lists, and a master that isn't due would not
-- change.
pub record IsKept (w : Inside) : Type 0 where
  pub world : KeepsLimits (values_of w)
  pub placed : IsByPlace w.part w.core w.known
  pub level : drop (master_count w.part) w.known.next.items ≡ drop (master_count w.part) w.known.values.items
  pub settled : AreSettled w.part w.core w.known
  pub chunks : (1 ≤ w.chunks) × (w.chunks ≤ 64)
