use Rattle.std.proofs.Common.{◌≡◌, ◌+◌, ◌*◌, ◌≤◌, ◌++◌, take, vec_len}
use Rattle.std.specs.Prelude.{flat_map, vec_capacity}
use Rattle.px_base.specs.Frames.{four_bytes}
use Rattle.frame_bodies.proofs.lists.put_vertices.Given as goal

abbrev pub invariant-loop-vertex : goal.invariant-loop-vertex
invariant-loop-vertex l = record {
  items : l.out.items ≡ l.fn.out.items ++ flat_map four_bytes (take l.vertex-index l.vertices);
  len : vec_len l.out ≡ vec_len l.fn.out + 4 * l.vertex-index;
  room : vec_capacity l.fn.out ≤ vec_capacity l.out;
}
