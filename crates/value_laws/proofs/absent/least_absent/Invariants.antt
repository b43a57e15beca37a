use Rattle.std.proofs.Common.{length, ◌-◌, ◌^◌, ◌<◌}
use Rattle.value_laws.specs.Candidates.{MarksFrom}
use Rattle.value_laws.proofs.FirstAbsent.{ListedBelow}
use Rattle.value_laws.proofs.absent.least_absent.Given as goal

-- all numbers before the word's are among the items, and the word tells of the next 64
abbrev pub invariant-loop-word : goal.invariant-loop-word
invariant-loop-word l = record { listed : ListedBelow l.low l.items; marks : MarksFrom l.low l.items l.word; fits : l.word < 2 ^ 64 }

-- how many items there may still be
abbrev pub decreases-loop-word : goal.decreases-loop-word
decreases-loop-word l = length l.items - l.low
