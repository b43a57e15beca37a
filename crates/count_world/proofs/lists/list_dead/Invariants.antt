use Rattle.std.proofs.Common.{◌≡◌, ◌≤◌}
use Rattle.std.specs.Prelude.{not, filter}
use Rattle.std.specs.Vec.{vec_capacity}
use Rattle.px_base.specs.Values.{is_in, positions_below}
use Rattle.count_world.proofs.lists.list_dead.Given as goal

-- those so far
abbrev pub invariant-loop-k : goal.invariant-loop-k
invariant-loop-k l = record {
  listed : l.list.items ≡ filter (λ k. not (is_in l.alive k)) (positions_below l.k);
  room : vec_capacity l.fn.list ≤ vec_capacity l.list;
}
