use Rattle.std.specs.Vec.Iter.{into_iter_items}
use Rattle.partitioner.proofs.Parted.{ArePartsSoFar}
use Rattle.partitioner.proofs.whole.parts_by.Given as goal

-- the parts so far
abbrev pub invariant-loop-list : goal.invariant-loop-list
invariant-loop-list l = ArePartsSoFar l.rows l.starts l.cuts.ends l.fn.lists.items l.yielded (into_iter_items l.list-iterator) l.parts.items
