use Rattle.std.proofs.Common.{arith, false, get_or}
use Rattle.std.specs.Prelude.{not, ◌&&◌}
use Rattle.std.proofs.lemmas.Grind.{common_steps}
use Rattle.px_base.specs.Parts.{is_within}
use Rattle.partitioner.proofs.Ranges.{placed_yes, placed_no}
use Rattle.partitioner.proofs.marks.marked_outside.Goals as goal
use Rattle.partitioner.proofs.marks.marked_outside.Goals.{then-is_marked_outside+in_ok-push, else-is_marked_outside}

pub loop-at-preserved : goal.loop-at-preserved
loop-at-preserved c = elim c.if-is_marked_outside.branch [
  | then-is_marked_outside+in_ok-push w ↦
      placed_yes (λ u. not (is_within c.args.low c.args.high u) && get_or c.args.marks.now u false) c.loop-at.at c.loop-at.found.items c.if-is_marked_outside.found.items (grind (arith, common_steps)) c.loop-at.invariant (grind (arith, common_steps))
  | else-is_marked_outside w ↦
      placed_no (λ u. not (is_within c.args.low c.args.high u) && get_or c.args.marks.now u false) c.loop-at.at c.loop-at.found.items c.if-is_marked_outside.found.items (grind (arith, common_steps)) c.loop-at.invariant (grind (arith, common_steps))
]
