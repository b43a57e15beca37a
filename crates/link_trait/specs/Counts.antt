-- Counts of ends, faults and calls. A count never falls, and stops at its last value.
use Rattle.std.specs.Prelude.{ℕ, ◌+◌, ◌≤◌, min, List, [], ◌∷◌}
use Rattle.px_io.specs.Causes.{LAST, one_more}

-- The count rose from before till now, by one or by more. One that stands at its last value counts as risen.
abbrev pub HasRisen : ℕ → ℕ → Type 0
HasRisen before now = one_more before ≤ now

-- a count, and so many more
abbrev pub more_by : ℕ → ℕ → ℕ
more_by count more = min (count + more) LAST

-- the counts of all workers once those of the first of them have risen by these
abbrev pub all_more_by : List ℕ → List ℕ → List ℕ
all_more_by counts [] = counts
all_more_by [] (more ∷ mores) = []
all_more_by (count ∷ counts) (more ∷ mores) = more_by count more ∷ all_more_by counts mores
