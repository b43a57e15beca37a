use Rattle.std.specs.Vec.Iter.{into_iter_items}
use Rattle.link_calls.proofs.Returned.{AreAdded}
use Rattle.link_calls.proofs.silent.add_all.Given as goal

-- those so far have come back
abbrev pub invariant-loop-spawner : goal.invariant-loop-spawner
invariant-loop-spawner l = AreAdded l.k l.fn.spawners.items (into_iter_items l.spawner-iterator) l.initial.starts l.initial.faults l.initial.ends l.starts l.faults l.ends
