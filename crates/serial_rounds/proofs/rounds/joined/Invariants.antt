use Rattle.std.proofs.Common.{◌≡◌, take}
use Rattle.std.specs.List.{flat_map}
use Rattle.px_base.specs.Worlds.{masters_of}
use Rattle.serial_rounds.proofs.rounds.joined.Given as goal

-- the values of the worlds so far
abbrev pub invariant-loop-world : goal.invariant-loop-world
invariant-loop-world l = l.values.items ≡ flat_map masters_of (take l.world-index l.worlds)
