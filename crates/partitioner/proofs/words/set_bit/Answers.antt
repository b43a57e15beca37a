use Rattle.std.proofs.Common.{true, get_or, set, arith, refl}
use Rattle.std.specs.Prelude.{◌==◌}
use Rattle.partitioner.specs.Bits.{has_bit}
use Rattle.partitioner.proofs.BitWords.{marked}
use Rattle.partitioner.proofs.Mirrors.{one_set_more}
use Rattle.partitioner.proofs.words.set_bit.Goals as goal

pub loop-at-preserved : goal.loop-at-preserved
loop-at-preserved c u k =
    one_set_more (has_bit (get_or c.loop-at.words u 0) k) (has_bit (get_or (set c.loop-at.words (get_or c.args.positions.now c.loop-at.at-index 0) c.with_bit.result) u 0) k) (has_bit (get_or c.args.words.now u 0) k) (k == c.args.j)
    u c.loop-at.at-index c.args.positions.now 0 c.loop-at-test.true (c.loop-at.invariant u k)
    (marked c.loop-at.words (get_or c.args.positions.now c.loop-at.at-index 0) c.with_bit.result c.args.j u k (λ v. true)
    (omega (arith, c.requires.inside c.loop-at.at-index 0 c.loop-at-test.true, c.loop-at.auto.words)) refl (c.with_bit.ensures k))
