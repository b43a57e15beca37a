use Rattle.std.proofs.Common.{take}
use Rattle.value_laws.specs.Candidates.{MarksFrom}
use Rattle.value_laws.proofs.absent.marks_from.Given as goal

-- the word tells of the items so far
abbrev pub invariant-loop-item : goal.invariant-loop-item
invariant-loop-item l = MarksFrom l.low (take l.item-index l.items) l.word
