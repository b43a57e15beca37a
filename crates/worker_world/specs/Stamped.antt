-- Which numbers of a table have a stamp.
use Rattle.std.specs.Prelude.{◌≡◌, ◌==◌, ◌<◌, ℕ, List, length, slice_index}
use Rattle.px_base.specs.Values.{is_listed}

-- of the numbers that the table has a place for, just those among the items have the stamp
abbrev pub IsStamped : ℕ → List ℕ → List ℕ → Type 0
IsStamped stamp items marks = (k : ℕ) → k < length marks → (slice_index marks k == stamp) ≡ is_listed items k
