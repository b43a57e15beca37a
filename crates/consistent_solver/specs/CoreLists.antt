-- Consistent lists in core values, and what becomes of a list that is renewed. starts has each vertex's core start value,
-- and x is a list of core values, both by position.
use Rattle.std.specs.Prelude.{ℕ, zero, suc, ◌<◌, ◌≤◌, min, Bool, List, length, slice_index, if◌then◌else◌}
use Rattle.px_base.specs.declared.graph.Read.{Read}
use Rattle.px_base.specs.declared.program.CoreProgram.{CoreProgram}
use Rattle.px_base.specs.Values.{IsValueList, by_position}
use Rattle.px_base.specs.Graphs.{row_at}
use Rattle.px_base.specs.Core.{core_pull}

-- y is at most x at each of the n positions
abbrev pub IsBelow : ℕ → List ℕ → List ℕ → Type 0
IsBelow n y x = (v : ℕ) → v < n → slice_index y v ≤ slice_index x v

-- what the vertex v gathers from its core start value and from the core values of the vertices that it reads
abbrev pub gathered_at : CoreProgram → List (List Read) → List ℕ → List ℕ → ℕ → ℕ
gathered_at core rows starts x v = core_pull core (slice_index x) (slice_index starts v) (row_at rows v)

-- ---- consistent lists

-- each core value is at most what the vertex gathers from the list
pub record IsCoreConsistent (core : CoreProgram) (rows : List (List Read)) (starts x : List ℕ) : Type 0 where
  pub values : IsValueList (length rows) x
  pub each : (v : ℕ) → v < length rows → slice_index x v ≤ gathered_at core rows starts x v

-- x is consistent, and every consistent list is at most x
pub record IsGreatestCoreConsistent (core : CoreProgram) (rows : List (List Read)) (starts x : List ℕ) : Type 0 where
  pub consistent : IsCoreConsistent core rows starts x
  pub greatest : (y : List ℕ) → IsCoreConsistent core rows starts y → IsBelow (length rows) y x

-- ---- renewals

-- the new value of v: the least of its value and of what it gathers
abbrev pub renewed_at : CoreProgram → List (List Read) → List ℕ → List ℕ → ℕ → ℕ
renewed_at core rows starts x v = min (slice_index x v) (gathered_at core rows starts x v)

-- the list after all vertices were renewed at once
abbrev pub renewed : CoreProgram → List (List Read) → List ℕ → List ℕ → List ℕ
renewed core rows starts x = by_position (length rows) (renewed_at core rows starts x)

-- the list after the vertices that pass the test were renewed at once, and no others
abbrev pub renewed_where : (ℕ → Bool) → CoreProgram → List (List Read) → List ℕ → List ℕ → List ℕ
renewed_where chosen core rows starts x = by_position (length rows) (λ v. if chosen v then renewed_at core rows starts x v else slice_index x v)

-- the list after so many renewals of all vertices
abbrev pub renewed_times : ℕ → CoreProgram → List (List Read) → List ℕ → List ℕ → List ℕ
renewed_times zero core rows starts x = x
renewed_times (suc times) core rows starts x = renewed_times times core rows starts (renewed core rows starts x)
