use Rattle.partitioner.proofs.LowestBits.{AreFound}
use Rattle.partitioner.proofs.words.bits_of.Given as goal

-- the bits so far, and the rest of the word
abbrev pub invariant-loop-rest : goal.invariant-loop-rest
invariant-loop-rest l = AreFound l.word l.rest l.found.items

abbrev pub decreases-loop-rest : goal.decreases-loop-rest
decreases-loop-rest l = l.rest
