use Rattle.std.proofs.Common.{arith, ap, ◌∙◌, slice_index}
use Rattle.std.specs.Vec.Iter.{into_iter_items}
use Rattle.link_trait.specs.Counts.{more_by}
use Rattle.link_calls.proofs.Returned.{added_next}
use Rattle.link_calls.proofs.silent.add_all.Goals as goal

pub loop-spawner-preserved : goal.loop-spawner-preserved
loop-spawner-preserved c = added_next c.args.spawners.items c.args.starts.now c.args.faults.now c.args.ends.now c.loop-spawner.k _ (into_iter_items c.next.new.self) c.in-Some.spawner _ _ _ _ _ _
    c.loop-spawner.invariant c.in-Some.ensures.steps.0 (omega (arith, c.requires, c.told-starts)) (omega (arith, c.requires, c.told-faults)) (omega (arith, c.requires, c.told-ends))
    (c.saturating_add.ensures ∙ ap (more_by (slice_index c.loop-spawner.starts c.loop-spawner.k)) c.came-came.ensures.starts)
    (c.saturating_add-in-loop-spawner.ensures ∙ ap (more_by (slice_index c.loop-spawner.faults c.loop-spawner.k)) c.came-came.ensures.faults)
    (c.saturating_add-in-loop-spawner-2.ensures ∙ ap (more_by (slice_index c.loop-spawner.ends c.loop-spawner.k)) c.came-came.ensures.ends)
    c.came-came.ensures.nothing
