use Rattle.std.proofs.Common.{◌≡◌, ℕ, get_or}
use Rattle.std.specs.Prelude.{filter}
use Rattle.px_base.specs.Values.{by_position, positions_below}
use Rattle.partitioner.specs.Bits.{has_bit, HasBitsBelow}
use Rattle.partitioner.proofs.tables.bit_table.Given as goal

-- the bits of the words so far
abbrev pub invariant-loop-word : goal.invariant-loop-word
invariant-loop-word l = (most : ℕ) → ((u : ℕ) → HasBitsBelow (get_or l.words u 0) most) → l.to.items ≡ by_position l.word-index (λ u. filter (has_bit (get_or l.words u 0)) (positions_below most))
