use Rattle.std.proofs.Common.{arith}
use Rattle.std.specs.Int.{trailing_zeros, w64}
use Rattle.partitioner.proofs.LowestBits.{lowest_has}
use Rattle.partitioner.proofs.PositionSets.{none_pushed, next_pushed, all_pushed}
use Rattle.partitioner.proofs.sets.push_bits.Goals as goal

pub loop-rest-init : goal.loop-rest-init
loop-rest-init c = none_pushed c.args.word c.args.first c.args.found.now.items (omega arith)

pub loop-rest-preserved : goal.loop-rest-preserved
loop-rest-preserved c =
    next_pushed c.args.word c.loop-rest.rest c.without_lowest-rest.result c.args.first c.args.found.now.items c.loop-rest.found.items c.push.new.self.items (omega arith) (omega arith) c.without_lowest-rest.ensures.bits
    c.in_ok-push.ensures.items c.loop-rest.invariant

pub overflow_add-first : goal.overflow_add-first
overflow_add-first c =
    omega (arith, c.requires (trailing_zeros w64 c.loop-rest.rest) (c.loop-rest.invariant.of.inside (trailing_zeros w64 c.loop-rest.rest) (lowest_has c.loop-rest.rest (omega arith) c.loop-rest.invariant.of.fits)))

pub returns : goal.returns
returns c = all_pushed c.args.word c.loop-rest.rest c.args.first c.args.found.now.items c.loop-rest.found.items (omega arith) c.loop-rest.invariant
