-- Rows in which reading is mutual.
use Rattle.std.specs.Prelude.{◌≡◌, ℕ, ◌==◌, List}
use Rattle.px_base.specs.declared.graph.Read.{Read}
use Rattle.px_base.specs.Graphs.{reads_passing, row_at}

-- how often u stands in the row
abbrev pub times_in_row : List Read → ℕ → ℕ
times_in_row row u = reads_passing (λ source. source == u) row

-- u stands in the row of v as often as v in the row of u
abbrev pub AreMutual : List (List Read) → Type 0
AreMutual rows = (u v : ℕ) → times_in_row (row_at rows v) u ≡ times_in_row (row_at rows u) v
