use Rattle.std.proofs.Common.{arith, get_or}
use Rattle.std.specs.Prelude.{◌==◌, not}
use Rattle.std.proofs.lemmas.Grind.{common_steps}
use Rattle.std.proofs.lemmas.Bool.Decides.{nat_tests}
use Rattle.partitioner.proofs.Ranges.{found_yes, found_no}
use Rattle.partitioner.proofs.words.with_some_bit.Goals as goal
use Rattle.partitioner.proofs.words.with_some_bit.Goals.{then-words-at-ne0+in_ok-push, else-words-at-ne0}

pub loop-at-preserved : goal.loop-at-preserved
loop-at-preserved c = elim c.if-words-at-ne0.branch [
  | then-words-at-ne0+in_ok-push w ↦ found_yes (λ u. not (get_or c.args.words.now u 0 == 0)) c.args.low c.loop-at.at c.loop-at.found.items c.if-words-at-ne0.found.items (omega arith) (grind (arith, common_steps, nat_tests)) c.loop-at.invariant (grind (arith, common_steps))
  | else-words-at-ne0 w ↦ found_no (λ u. not (get_or c.args.words.now u 0 == 0)) c.args.low c.loop-at.at c.loop-at.found.items c.if-words-at-ne0.found.items (omega arith) (grind (arith, common_steps, nat_tests)) c.loop-at.invariant (grind (arith, common_steps))
]
