use Rattle.std.proofs.Common.{◌≡◌, ◌%◌, ◌++◌, length}
use Rattle.std.specs.Prelude.{flat_map, All}
use Rattle.px_base.specs.Frames.{four_bytes}
use Rattle.px_base.specs.FrameFits.{IsWord}
use Rattle.frame_bodies.proofs.lists.read_vertices.Given as goal

-- what was read so far, and what is left
abbrev pub invariant-loop-vertex : goal.invariant-loop-vertex
invariant-loop-vertex l = record {
  read : l.bytes ≡ flat_map four_bytes l.vertices.items ++ l.rest;
  room : All IsWord l.vertices.items;
  whole : length l.rest % 4 ≡ 0;
}

abbrev pub decreases-loop-vertex : goal.decreases-loop-vertex
decreases-loop-vertex l = length l.rest
