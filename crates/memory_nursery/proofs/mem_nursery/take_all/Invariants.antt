use Rattle.std.proofs.Common.{vec_len, vec_capacity}
use Rattle.std.specs.Prelude.{flat_map}
use Rattle.std.specs.Vec.Iter.{into_iter_items}
use Rattle.memory_nursery.proofs.Taking.{AreTaken}
use Rattle.memory_nursery.proofs.mem_nursery.take_all.Given as goal

-- those so far
abbrev pub invariant-loop-spawner : goal.invariant-loop-spawner
invariant-loop-spawner l = AreTaken l.k l.fn.spawners.items (into_iter_items l.spawner-iterator) l.initial.counts l.counts
    (flat_map (λ list. list.items) l.initial.retired.items) (flat_map (λ list. list.items) l.retired.items)
    (vec_len l.initial.retired) (vec_len l.retired) (vec_capacity l.initial.retired) (vec_capacity l.retired)
