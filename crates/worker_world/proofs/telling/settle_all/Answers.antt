use Rattle.std.proofs.Common.{arith, ◌∙◌, sym}
use Rattle.placed_parts.specs.Places.{master_count}
use Rattle.worker_world.proofs.Halved.{both_same}
use Rattle.worker_world.proofs.telling.settle_all.Goals as goal

pub returns-clause-settled : goal.returns-clause-settled
returns-clause-settled c =
    both_same (master_count c.args.part.now) c.loop-place.values.items c.args.next.now c.args.values.now.items (c.loop-place.invariant.size ∙ c.requires.values ∙ sym c.requires.next) c.loop-place.invariant.size
    (λ k below. c.loop-place.invariant.done k (omega (arith, below, c.loop-place-test.false, c.master_count-place-end.ensures)))
    (λ k above. c.loop-place.invariant.rest k (omega (arith, above, c.loop-place.auto, c.master_count-place-end.ensures)))
