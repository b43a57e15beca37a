use Rattle.std.proofs.Common.{◌≡◌, ℕ, take, get_or}
use Rattle.std.specs.Prelude.{◌==◌, ◌&&◌, ◌||◌}
use Rattle.px_base.specs.Values.{is_listed}
use Rattle.partitioner.specs.Bits.{has_bit}
use Rattle.partitioner.proofs.words.set_bit.Given as goal

-- the bits that were set, and bit j of the positions so far
abbrev pub invariant-loop-at : goal.invariant-loop-at
invariant-loop-at l = (u k : ℕ) → has_bit (get_or l.words u 0) k ≡ (has_bit (get_or l.fn.words u 0) k || (k == l.j && is_listed (take l.at-index l.positions) u))
