use Rattle.std.proofs.Common.{◌≡◌, false, get_or}
use Rattle.std.specs.Prelude.{not, ◌&&◌, filter}
use Rattle.px_base.specs.Values.{positions_below}
use Rattle.px_base.specs.Parts.{is_within}
use Rattle.partitioner.proofs.marks.marked_outside.Given as goal

-- what is found among the positions so far
abbrev pub invariant-loop-at : goal.invariant-loop-at
invariant-loop-at l = l.found.items ≡ filter (λ u. not (is_within l.low l.high u) && get_or l.marks u false) (positions_below l.at)
