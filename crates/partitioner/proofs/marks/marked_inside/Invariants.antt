use Rattle.std.proofs.Common.{◌≡◌, ◌-◌, false, get_or}
use Rattle.std.specs.Prelude.{filter}
use Rattle.std.specs.List.{range_with_len}
use Rattle.partitioner.proofs.marks.marked_inside.Given as goal

-- what is found among the positions so far
abbrev pub invariant-loop-at : goal.invariant-loop-at
invariant-loop-at l = l.found.items ≡ filter (λ u. get_or l.marks u false) (range_with_len l.low (l.at - l.low))
