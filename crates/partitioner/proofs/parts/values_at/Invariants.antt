use Rattle.std.proofs.Common.{◌≡◌, map, take}
use Rattle.std.specs.Prelude.{slice_index}
use Rattle.partitioner.proofs.parts.values_at.Given as goal

-- the values of the positions so far
abbrev pub invariant-loop-u : goal.invariant-loop-u
invariant-loop-u l = l.found.items ≡ map (slice_index l.values) (take l.u-index l.positions)
