use Rattle.std.proofs.Common.{◌≡◌, ◌+◌, ◌*◌, ◌≤◌, ◌++◌, take, vec_len}
use Rattle.std.specs.Prelude.{flat_map, vec_capacity}
use Rattle.px_base.specs.Frames.{eight_bytes}
use Rattle.frame_bodies.proofs.lists.put_values.Given as goal

abbrev pub invariant-loop-value : goal.invariant-loop-value
invariant-loop-value l = record {
  items : l.out.items ≡ l.fn.out.items ++ flat_map eight_bytes (take l.value-index l.values);
  len : vec_len l.out ≡ vec_len l.fn.out + 8 * l.value-index;
  room : vec_capacity l.fn.out ≤ vec_capacity l.out;
}
