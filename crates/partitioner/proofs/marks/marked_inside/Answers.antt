use Rattle.std.proofs.Common.{arith, false, get_or}
use Rattle.std.proofs.lemmas.Grind.{common_steps}
use Rattle.partitioner.proofs.Ranges.{found_yes, found_no}
use Rattle.partitioner.proofs.marks.marked_inside.Goals as goal
use Rattle.partitioner.proofs.marks.marked_inside.Goals.{then-marks-at+in_ok-push, else-marks-at}

pub loop-at-preserved : goal.loop-at-preserved
loop-at-preserved c = elim c.if-marks-at.branch [
  | then-marks-at+in_ok-push w ↦ found_yes (λ u. get_or c.args.marks.now u false) c.args.low c.loop-at.at c.loop-at.found.items c.if-marks-at.found.items (omega arith) (grind (arith, common_steps)) c.loop-at.invariant (grind (arith, common_steps))
  | else-marks-at w ↦ found_no (λ u. get_or c.args.marks.now u false) c.args.low c.loop-at.at c.loop-at.found.items c.if-marks-at.found.items (omega arith) (grind (arith, common_steps)) c.loop-at.invariant (grind (arith, common_steps))
]
