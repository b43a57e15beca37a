-- A graph while it is peeled.
use Rattle.std.specs.Prelude.{◌≡◌, ℕ, ◌+◌, ◌-◌, ◌<◌, ◌≤◌, All, IsTrue, List, [], ◌∷◌, ◌++◌, length, map, nat_lt, replicate, slice_index, slice_set, sum, sum_by, if◌then◌else◌}
use Rattle.px_base.specs.declared.graph.Read.{Read}
use Rattle.px_base.specs.Values.{is_in}
use Rattle.px_base.specs.Graphs.{reads_passing, row_at}
use Rattle.px_base.specs.Answers.{SupportsItself}
use Rattle.core_solver.specs.Mutual.{times_in_row}

-- A flag for each vertex, 1 while it is alive; how many reads each living vertex still counts; and the dead that wait to
-- be peeled off.
pub record PeelState : Type 0 where
  pub alive : List ℕ
  pub counts : List ℕ
  pub dead : List ℕ

-- ---- the steps

-- all vertices are alive, and each counts its whole row
abbrev pub all_alive : List (List Read) → PeelState
all_alive rows = record { alive = replicate (length rows) 1; counts = map (λ row. length row) rows; dead = [] }

-- v is dead, and waits
abbrev pub with_dead : PeelState → ℕ → PeelState
with_dead s v = record { alive = slice_set s.alive v 0; counts = s.counts; dead = s.dead ++ v ∷ [] }

-- v is dead if it counts fewer reads than k
abbrev pub with_short_dead : ℕ → PeelState → ℕ → PeelState
with_short_dead k s v = if nat_lt (slice_index s.counts v) k then with_dead s v else s

-- a living u counts one read less, and is dead if these are fewer than k
abbrev pub with_read_less : ℕ → PeelState → ℕ → PeelState
with_read_less k s u =
    if is_in s.alive u then with_short_dead k (record { alive = s.alive; counts = slice_set s.counts u (slice_index s.counts u - 1); dead = s.dead }) u
    else s

-- ---- what is known between two steps

-- The set has a flag for each vertex, and each set that supports itself is within it.
pub record HoldsCores (k : ℕ) (rows : List (List Read)) (x : List ℕ) : Type 0 where
  pub one_each : length x ≡ length rows
  pub flags : All (λ f. f ≤ 1) x
  pub greatest : (other : List ℕ) → SupportsItself k rows other → (v : ℕ) → IsTrue (is_in other v) → IsTrue (is_in x v)

-- how often u stands in the rows of these vertices
abbrev pub times_in_rows : List (List Read) → List ℕ → ℕ → ℕ
times_in_rows rows vertices u = sum_by (λ v. times_in_row (row_at rows v) u) vertices

-- A moment of the peeling, in a row of which these reads are left. Each set that supports itself is alive. Each living
-- vertex counts its reads of living vertices, and those of the dead that wait: reading is mutual, so they are as many as
-- it stands in the rows of these. The same holds of the reads that are left.
pub record IsPeeling (k : ℕ) (rows : List (List Read)) (left : List Read) (s : PeelState) : Type 0 where
  pub cores : HoldsCores k rows s.alive
  pub one_count_each : length s.counts ≡ length rows
  pub within : All (λ v. v < length rows) s.dead
  pub counted : (u : ℕ) → IsTrue (is_in s.alive u) →
      slice_index s.counts u ≡ reads_passing (is_in s.alive) (row_at rows u) + (times_in_rows rows s.dead u + times_in_row left u)

-- each living vertex below the limit counts at least k reads
abbrev pub HaveEnough : ℕ → ℕ → PeelState → Type 0
HaveEnough k limit s = (u : ℕ) → u < limit → IsTrue (is_in s.alive u) → k ≤ slice_index s.counts u

-- how many vertices are still to be peeled off at most
abbrev pub work_left : PeelState → ℕ
work_left s = sum s.alive + length s.dead
