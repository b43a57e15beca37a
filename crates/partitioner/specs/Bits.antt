-- The bits of a word, and sets of positions that have 64 of them to a word.
use Rattle.std.specs.Prelude.{◌≡◌, ◌<◌, ◌-◌, ◌/◌, ◌%◌, ℕ, Bool, true, List, filter, slice_index, ◌==◌}
use Rattle.std.specs.Int.{bit_at}
use Rattle.std.specs.List.{range_with_len}

-- the word has bit j
abbrev pub has_bit : ℕ → ℕ → Bool
has_bit word j = bit_at word j == 1

-- each bit of the word is below this one
abbrev pub HasBitsBelow : ℕ → ℕ → Type 0
HasBitsBelow word most = (k : ℕ) → has_bit word k ≡ true → k < most

-- the set has the position
abbrev pub holds : List ℕ → ℕ → Bool
holds set u = has_bit (slice_index set (u / 64)) (u % 64)

-- the positions of the word's bits, where its first bit stands for this one
unfoldable pub word_positions : ℕ → ℕ → List ℕ
word_positions word first = filter (λ u. has_bit word (u - first)) (range_with_len first 64)
