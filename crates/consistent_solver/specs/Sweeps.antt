-- How core values are lowered in place: by sweeps, in which each vertex takes the least of its own value and of all that it
-- reads, or by telling the readers of vertices that fell. No start value is read again, since the own value is at most that
-- from the beginning.
use Rattle.std.specs.Prelude.{◌≡◌, ◌⊎◌, ℕ, ◌<◌, ◌≤◌, All, Bool, true, false, Contains, List, length, map, slice_index, slice_index_or}
use Rattle.px_base.specs.declared.graph.Read.{Read}
use Rattle.px_base.specs.declared.program.CoreProgram.{CoreProgram}
use Rattle.px_base.specs.declared.TheConstants.{TOP}
use Rattle.px_base.specs.Values.{IsValueList, IsWeight}
use Rattle.px_base.specs.Graphs.{row_at}
use Rattle.px_base.specs.Rules.{least}
use Rattle.px_base.specs.Core.{core_edge_value}
use Rattle.consistent_solver.specs.declared.waiting.Waiting.{Waiting}
use Rattle.consistent_solver.specs.CoreLists.{IsBelow, IsCoreConsistent}
use Rattle.consistent_solver.specs.Readers.{entry_at}

-- the core edge values of a row, where x is the list of all core values by position
abbrev pub core_edge_values : CoreProgram → List ℕ → List Read → List ℕ
core_edge_values core x row = map (λ r. core_edge_value core (slice_index x r.source) r.weight) row

-- the least of the value of v and of all that it reads
abbrev pub lowered_at : CoreProgram → List (List Read) → List ℕ → ℕ → ℕ
lowered_at core rows x v = least (slice_index x v) (core_edge_values core x (row_at rows v))

-- What lowering makes of a list: no value rises, and every list that is consistent from some starts, and was at most the list
-- before, is at most the list after.
pub record IsLowered (core : CoreProgram) (rows : List (List Read)) (before after : List ℕ) : Type 0 where
  pub values : IsValueList (length rows) after
  pub lower : IsBelow (length rows) after before
  pub above : (starts y : List ℕ) → IsCoreConsistent core rows starts y → IsBelow (length rows) y before → IsBelow (length rows) y after

-- What lowering makes of a list in the end: each vertex has at most what it reads.
pub record IsSettled (core : CoreProgram) (rows : List (List Read)) (before after : List ℕ) : Type 0 where
  pub lowered : IsLowered core rows before after
  pub still : (v : ℕ) → v < length rows → slice_index after v ≤ lowered_at core rows after v

-- ---- marks

-- the list of marks by position has one for v
abbrev pub IsMarked : List Bool → ℕ → Type 0
IsMarked marks v = slice_index_or marks v false ≡ true

-- u has at most what it reads of v with the weight w
abbrev pub HasHeard : CoreProgram → List ℕ → ℕ → ℕ → ℕ → Type 0
HasHeard core x u v w = slice_index x u ≤ core_edge_value core (slice_index x v) w

-- whatever the weight, a vertex with this value lowers no reader
abbrev pub TellsNothing : CoreProgram → ℕ → Type 0
TellsNothing core x = (w : ℕ) → IsWeight w → TOP ≤ core_edge_value core x w

-- each vertex has at most what it reads of vertices that aren't marked
pub record AreTold (core : CoreProgram) (rows : List (List Read)) (marks : List Bool) (x : List ℕ) : Type 0 where
  pub each : (u : ℕ) (r : Read) → Contains (row_at rows u) r → IsMarked marks r.source ⊎ HasHeard core x u r.source r.weight

-- ---- sweeps

-- What the first vertices of a sweep, so many, make of a list. The marks say which of them fell in this sweep, and changed
-- whether some did. Each of them has at most what it reads of any other vertex than those.
pub record IsSwept (core : CoreProgram) (rows : List (List Read)) (count : ℕ) (before after : List ℕ) (marks : List Bool) (changed : Bool) : Type 0 where
  pub lowered : IsLowered core rows before after
  pub one_each : length marks ≡ length rows
  pub told : (u : ℕ) (r : Read) → u < count → Contains (row_at rows u) r → ((r.source < count) × IsMarked marks r.source) ⊎ HasHeard core after u r.source r.weight
  pub none : changed ≡ false → (v : ℕ) → v < count → slice_index_or marks v false ≡ false

-- ---- telling readers

-- The vertices that wait are among n, and each that is marked waits.
pub record IsWaitingList (n : ℕ) (waiting : Waiting) : Type 0 where
  pub one_each : length waiting.marks.items ≡ n
  pub vertices : All (λ v. v < n) waiting.queue.items
  pub listed : (v : ℕ) → IsMarked waiting.marks.items v → Contains waiting.queue.items v

-- What a list becomes once the value c was told to the first of these readers, so many: each of them has at most the edge
-- value of c. Who fell has such an edge value and is marked, and no mark is lost.
pub record HasTold (core : CoreProgram) (c : ℕ) (entries : List Read) (count : ℕ) (before after : List ℕ) (marks_before marks_after : List Bool) : Type 0 where
  pub one_each : length after ≡ length before
  pub lower : (u : ℕ) → slice_index after u ≤ slice_index before u
  pub told : (k : ℕ) → k < count → slice_index after (entry_at entries k).source ≤ core_edge_value core c (entry_at entries k).weight
  pub due : (u : ℕ) → (slice_index after u ≡ slice_index before u)
      ⊎ ((k : ℕ) × (k < count) × ((entry_at entries k).source ≡ u) × (slice_index after u ≡ core_edge_value core c (entry_at entries k).weight))
  pub fell : (u : ℕ) → (slice_index after u ≡ slice_index before u) ⊎ IsMarked marks_after u
  pub kept : (u : ℕ) → IsMarked marks_before u → IsMarked marks_after u
