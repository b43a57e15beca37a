use Rattle.std.proofs.Common.{◌≡◌, ◌%◌, ◌++◌, length}
use Rattle.std.specs.Prelude.{flat_map, All}
use Rattle.px_base.specs.Frames.{triple_bytes}
use Rattle.frame_bodies.specs.Widths.{TripleHasRoom}
use Rattle.frame_bodies.proofs.lists.read_triples.Given as goal

-- what was read so far, and what is left
abbrev pub invariant-loop-triple : goal.invariant-loop-triple
invariant-loop-triple l = record {
  read : l.bytes ≡ flat_map triple_bytes l.triples.items ++ l.rest;
  room : All TripleHasRoom l.triples.items;
  whole : length l.rest % 12 ≡ 0;
}

abbrev pub decreases-loop-triple : goal.decreases-loop-triple
decreases-loop-triple l = length l.rest
