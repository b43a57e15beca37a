use Rattle.std.proofs.Common.{◌≡◌, ◌≤◌}
use Rattle.std.specs.Prelude.{filter}
use Rattle.std.specs.Vec.{vec_capacity}
use Rattle.px_base.specs.Values.{positions_below}
use Rattle.count_world.specs.Sets.{is_dying}
use Rattle.count_world.proofs.lists.list_dying.Given as goal

-- those so far
abbrev pub invariant-loop-k : goal.invariant-loop-k
invariant-loop-k l = record {
  listed : l.list.items ≡ filter (is_dying l.alive l.counts l.needed) (positions_below l.k);
  room : vec_capacity l.fn.list ≤ vec_capacity l.list;
}
