use Rattle.std.proofs.Common.{◌≡◌, ◌+◌, ◌*◌, ◌≤◌, ◌++◌, take, vec_len}
use Rattle.std.specs.Prelude.{flat_map, vec_capacity}
use Rattle.px_base.specs.Frames.{pair_bytes}
use Rattle.frame_bodies.proofs.lists.put_pairs.Given as goal

abbrev pub invariant-loop-pair : goal.invariant-loop-pair
invariant-loop-pair l = record {
  items : l.out.items ≡ l.fn.out.items ++ flat_map pair_bytes (take l.pair-index l.pairs);
  len : vec_len l.out ≡ vec_len l.fn.out + 12 * l.pair-index;
  room : vec_capacity l.fn.out ≤ vec_capacity l.out;
}
