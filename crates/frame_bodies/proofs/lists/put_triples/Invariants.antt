use Rattle.std.proofs.Common.{◌≡◌, ◌+◌, ◌*◌, ◌≤◌, ◌++◌, take, vec_len}
use Rattle.std.specs.Prelude.{flat_map, vec_capacity}
use Rattle.px_base.specs.Frames.{triple_bytes}
use Rattle.frame_bodies.proofs.lists.put_triples.Given as goal

abbrev pub invariant-loop-triple : goal.invariant-loop-triple
invariant-loop-triple l = record {
  items : l.out.items ≡ l.fn.out.items ++ flat_map triple_bytes (take l.triple-index l.triples);
  len : vec_len l.out ≡ vec_len l.fn.out + 12 * l.triple-index;
  room : vec_capacity l.fn.out ≤ vec_capacity l.out;
}
