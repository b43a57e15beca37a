use Rattle.std.proofs.Common.{◌≡◌, ◌*◌}
use Rattle.std.specs.Prelude.{filter}
use Rattle.px_base.specs.Values.{positions_below}
use Rattle.partitioner.specs.Bits.{holds}
use Rattle.partitioner.proofs.sets.positions.Given as goal

-- the positions in the words so far
abbrev pub invariant-loop-i : goal.invariant-loop-i
invariant-loop-i l = l.found.items ≡ filter (holds l.set) (positions_below (64 * l.i))
