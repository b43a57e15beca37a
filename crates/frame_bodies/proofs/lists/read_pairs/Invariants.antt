use Rattle.std.proofs.Common.{◌≡◌, ◌%◌, ◌++◌, length}
use Rattle.std.specs.Prelude.{flat_map, All}
use Rattle.px_base.specs.Frames.{pair_bytes}
use Rattle.frame_bodies.specs.Widths.{PairHasRoom}
use Rattle.frame_bodies.proofs.lists.read_pairs.Given as goal

-- what was read so far, and what is left
abbrev pub invariant-loop-pair : goal.invariant-loop-pair
invariant-loop-pair l = record {
  read : l.bytes ≡ flat_map pair_bytes l.pairs.items ++ l.rest;
  room : All PairHasRoom l.pairs.items;
  whole : length l.rest % 12 ≡ 0;
}

abbrev pub decreases-loop-pair : goal.decreases-loop-pair
decreases-loop-pair l = length l.rest
