-- Candidates for the least number that is absent from a list, 64 of them as the bits of a word.
use Rattle.std.specs.Prelude.{◌≡◌, ◌==◌, ◌<◌, ◌+◌, ℕ, Bool, List}
use Rattle.std.specs.Int.{bit_at}
use Rattle.px_base.specs.Values.{is_listed}

-- bit k of the word is set
abbrev pub has_bit : ℕ → ℕ → Bool
has_bit word k = bit_at word k == 1

-- bit k of the word says whether low + k is among the items
abbrev pub MarksFrom : ℕ → List ℕ → ℕ → Type 0
MarksFrom low items word = (k : ℕ) → k < 64 → has_bit word k ≡ is_listed items (low + k)
