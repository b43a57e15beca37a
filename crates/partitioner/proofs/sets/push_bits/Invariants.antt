use Rattle.partitioner.proofs.PositionSets.{ArePushed}
use Rattle.partitioner.proofs.sets.push_bits.Given as goal

-- the positions so far, and the rest of the word
abbrev pub invariant-loop-rest : goal.invariant-loop-rest
invariant-loop-rest l = ArePushed l.word l.rest l.first l.fn.found.items l.found.items

abbrev pub decreases-loop-rest : goal.decreases-loop-rest
decreases-loop-rest l = l.rest
