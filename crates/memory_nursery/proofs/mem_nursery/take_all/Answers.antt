use Rattle.std.proofs.Common.{arith, ap, set}
use Rattle.std.specs.Vec.Iter.{into_iter_items}
use Rattle.memory_nursery.specs.declared.counts.WorkerCounts.{WorkerCounts}
use Rattle.memory_nursery.proofs.Taking.{taken_more}
use Rattle.memory_nursery.proofs.mem_nursery.take_all.Goals as goal

pub loop-spawner-preserved : goal.loop-spawner-preserved
loop-spawner-preserved c =
    taken_more c.args.spawners.items c.args.counts.now _ _ _ c.loop-spawner.k (into_iter_items c.loop-spawner.spawner-iterator) (into_iter_items c.next.new.self) c.in-Some.spawner
    c.loop-spawner.counts (set c.loop-spawner.counts c.loop-spawner.k c.take_one.new.counts) _ _ _ _ _ _ (record { starts = 0; faults = 0; ends = 0; starts_since = 0; links_since = 0 })
    c.loop-spawner.invariant c.in-Some.ensures.steps.0 (omega (arith, c.requires.few, c.told-counts))
    (ap (λ (w : WorkerCounts). set c.loop-spawner.counts c.loop-spawner.k w) c.take_one.ensures.counts)
    c.take_one.ensures.retired c.take_one.ensures.len c.take_one.ensures.capacity c.take_one.ensures.kept
