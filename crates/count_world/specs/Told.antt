-- How often mirrors stand in the rows of some masters, and what is told of it.
use Rattle.std.specs.Prelude.{ℕ, Bool, false, Option, None, Some, nat_lt, ◌==◌, List, [], ◌∷◌, length, sum_by, if◌then◌else◌}
use Rattle.px_base.specs.declared.graph.Read.{Read}
use Rattle.px_base.specs.declared.wire.Update.{Update}
use Rattle.px_base.specs.Graphs.{row_at, reads_passing}

-- how often m stands in the rows of the members
abbrev pub times_of : List (List Read) → List ℕ → ℕ → ℕ
times_of rows members m = sum_by (λ k. reads_passing (λ u. u == m) (row_at rows k)) members

-- how many reads stand in the rows of the members
abbrev pub reads_of : List (List Read) → List ℕ → ℕ
reads_of rows members = sum_by (λ k. length (row_at rows k)) members

-- each mirror that stands in such a row, with how often
abbrev pub told_updates : List ℕ → List ℕ → List Update
told_updates [] times = []
told_updates (m ∷ mirrors) [] = []
told_updates (m ∷ mirrors) (t ∷ times) = if nat_lt 0 t then record { vertex = m; value = t } ∷ told_updates mirrors times else told_updates mirrors times

-- the place is this one
abbrev pub is_place : Option ℕ → ℕ → Bool
is_place None i = false
is_place (Some at) i = at == i
