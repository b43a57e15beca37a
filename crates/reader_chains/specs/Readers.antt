-- The readers of places.
use Rattle.std.specs.Prelude.{ℕ, List, [], slice_index_or}

-- those of one place; past the last place there are none
abbrev pub readers_of : List (List ℕ) → ℕ → List ℕ
readers_of readers place = slice_index_or readers place []
