use Rattle.std.proofs.Common.{arith}
use Rattle.partitioner.proofs.PositionSets.{one_word_more, position_fits}
use Rattle.partitioner.proofs.sets.positions.Goals as goal

pub push_bits-requires : goal.push_bits-requires
push_bits-requires c k has = position_fits c.args.set.now c.loop-i.i k (omega (arith, c.type_inv.set c.loop-i.i)) c.requires.fit has

pub loop-i-preserved : goal.loop-i-preserved
loop-i-preserved c = one_word_more c.args.set.now c.loop-i.i c.loop-i.found.items c.push_bits.new.found.items c.loop-i.invariant c.in_ok-push_bits.ensures
