use Rattle.std.proofs.Common.{◌≡◌, ◌-◌, get_or}
use Rattle.std.specs.Prelude.{◌==◌, not, filter}
use Rattle.std.specs.List.{range_with_len}
use Rattle.partitioner.proofs.words.with_some_bit.Given as goal

-- what is found among the positions so far
abbrev pub invariant-loop-at : goal.invariant-loop-at
invariant-loop-at l = l.found.items ≡ filter (λ u. not (get_or l.words u 0 == 0)) (range_with_len l.low (l.at - l.low))
