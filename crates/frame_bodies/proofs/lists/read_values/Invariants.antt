use Rattle.std.proofs.Common.{◌≡◌, ◌%◌, ◌++◌, length}
use Rattle.std.specs.Prelude.{flat_map, All}
use Rattle.px_base.specs.Frames.{eight_bytes}
use Rattle.frame_bodies.specs.Widths.{IsLong}
use Rattle.frame_bodies.proofs.lists.read_values.Given as goal

-- what was read so far, and what is left
abbrev pub invariant-loop-value : goal.invariant-loop-value
invariant-loop-value l = record {
  read : l.bytes ≡ flat_map eight_bytes l.values.items ++ l.rest;
  room : All IsLong l.values.items;
  whole : length l.rest % 8 ≡ 0;
}

abbrev pub decreases-loop-value : goal.decreases-loop-value
decreases-loop-value l = length l.rest
