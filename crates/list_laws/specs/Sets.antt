-- Sets of places, as lists.
use Rattle.std.specs.Prelude.{◌≡◌, ℕ, Bool, List, filter, sum_by}
use Rattle.px_base.specs.Values.{positions_below}

-- The list has those of the first n that pass the test, each once, in some order: whatever is summed up over it is what is
-- summed up over them.
abbrev pub IsListOf : ℕ → (ℕ → Bool) → List ℕ → Type 0
IsListOf n test members = (f : ℕ → ℕ) → sum_by f members ≡ sum_by f (filter test (positions_below n))
