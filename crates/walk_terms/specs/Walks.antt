-- Walks through a graph that is given by its rows of reads, and what a value becomes along one.
use Rattle.std.specs.Prelude.{◌≡◌, ℕ, ◌<◌, ◌≤◌, IsTrue, List, [], ◌∷◌, length, fold, slice_index, All, Contains}
use Rattle.px_base.specs.declared.graph.Read.{Read}
use Rattle.px_base.specs.declared.program.Program.{Program}
use Rattle.px_base.specs.declared.program.CoreProgram.{CoreProgram}
use Rattle.px_base.specs.Values.{is_listed}
use Rattle.px_base.specs.Graphs.{row_at}
use Rattle.px_base.specs.Rules.{edge_value}
use Rattle.px_base.specs.Core.{core_edge_value}

-- ---- walks

-- v reads u with the weight w
abbrev pub HasRead : List (List Read) → ℕ → ℕ → ℕ → Type 0
HasRead rows v u w = Contains (row_at rows v) (record { source = u; weight = w })

-- each read is of a vertex that stands before its reader
abbrev pub ReadBefore : List (List Read) → Type 0
ReadBefore rows = (v : ℕ) → All (λ r. r.source < v) (row_at rows v)

-- A walk leads from u to v over reads of these weights, in this order: each read is of the vertex that the walk has come
-- to, and leads on to its reader. The empty walk leads from each vertex to itself.
abbrev pub IsWalk : List (List Read) → ℕ → ℕ → List ℕ → Type 0
IsWalk rows u v [] = u ≡ v
IsWalk rows u v (w ∷ weights) = (next : ℕ) × HasRead rows next u w × IsWalk rows next v weights

-- some walk leads from u to v
abbrev pub LeadsTo : List (List Read) → ℕ → ℕ → Type 0
LeadsTo rows u v = (weights : List ℕ) × IsWalk rows u v weights

-- a walk over reads of these weights leads to v from a source; the sources are given by position
abbrev pub IsSourceWalk : List (List Read) → List ℕ → ℕ → List ℕ → Type 0
IsSourceWalk rows sources v weights = (u : ℕ) × IsTrue (is_listed sources u) × IsWalk rows u v weights

-- a walk over reads of these weights leads to v from some vertex
abbrev pub IsWalkTo : List (List Read) → ℕ → List ℕ → Type 0
IsWalkTo rows v weights = (u : ℕ) × IsWalk rows u v weights

-- ---- what walks bring

-- what the value x becomes along a walk over reads of these weights, read after read
abbrev pub carried : Program → ℕ → List ℕ → ℕ
carried program x weights = fold (edge_value program.along) x weights

-- the same of a core value
abbrev pub core_carried : CoreProgram → ℕ → List ℕ → ℕ
core_carried core x weights = fold (core_edge_value core) x weights

-- The core value is what the start value of some vertex becomes along some walk to v, of so many reads at most.
pub record IsCarried (core : CoreProgram) (rows : List (List Read)) (starts : List ℕ) (most v value : ℕ) : Type 0 where
  pub from : ℕ
  pub weights : List ℕ
  pub inside : from < length rows
  pub walk : IsWalk rows from v weights
  pub short : length weights ≤ most
  pub is : value ≡ core_carried core (slice_index starts from) weights
