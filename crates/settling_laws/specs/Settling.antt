-- What has settled at a vertex after so many rounds of a job, class by class. Numbers alone, without workers.
use Rattle.std.specs.Prelude.{◌≡◌, ℕ, zero, suc, ◌-◌, ◌<◌, ◌≤◌, Bool, true, ◌&&◌, nat_le, List, [], length, slice_index, All, Ok}
use Rattle.px_base.specs.declared.graph.Read.{Read}
use Rattle.px_base.specs.Graphs.{row_at, reads_passing}
use Rattle.px_base.specs.Answers.{reads_needed}
use Rattle.px_base.specs.declared.program.Class.{Class}
use Rattle.px_base.specs.Classes.{class_of}
use Rattle.consistent_solver.specs.CoreLists.{gathered_at, renewed_times}
use Rattle.hub_terms.specs.Jobs.{Job, IsSound}

-- the job is sound, and its program is of this class
pub record IsSoundAs (class : Class) (job : Job) : Type 0 where
  pub sound : IsSound job
  pub of_class : class_of job.core.program ≡ Ok class

-- the last round in which something settles, at the latest: rounds count from 0, and in each one vertex more settles, until all have
abbrev pub last_settling : Job → ℕ
last_settling job = length job.rows - 1

-- ---- locally correcting

-- the value of v after k renewals of all vertices from their start values, each of which follows the walks for one read more
abbrev pub value_after : Job → ℕ → ℕ → ℕ
value_after job k v = slice_index (renewed_times k job.core job.rows job.starts job.starts) v

-- x is as low as v is after k renewals
abbrev pub IsLowBy : Job → ℕ → ℕ → ℕ → Type 0
IsLowBy job k v x = x ≤ value_after job k v

-- ---- self-stabilising

-- no chain of more than depth reads begins at v
abbrev pub IsShallow : List (List Read) → ℕ → ℕ → Type 0
IsShallow rows zero v = row_at rows v ≡ []
IsShallow rows (suc depth) v = All (λ r. IsShallow rows depth r.source) (row_at rows v)

-- in this list each value is what its vertex gathers from the list
abbrev pub IsGathered : Job → List ℕ → Type 0
IsGathered job list = (v : ℕ) → v < length job.rows → slice_index list v ≡ gathered_at job.core job.rows job.starts list v

-- where no chain of more than k reads begins at v, x is the right value: that of v in every list that is gathered from itself
abbrev pub IsRightBy : Job → ℕ → ℕ → ℕ → Type 0
IsRightBy job k v x = IsShallow job.rows k v → (list : List ℕ) → IsGathered job list → x ≡ slice_index list v

-- ---- globally correcting

-- v is left after so many layers are peeled off; a layer has those that have fewer reads than needed of vertices that were left before it
abbrev pub is_left : List (List Read) → ℕ → ℕ → ℕ → Bool
is_left rows needed zero v = true
is_left rows needed (suc layers) v = is_left rows needed layers v && nat_le needed (reads_passing (is_left rows needed layers) (row_at rows v))

-- v is in a layer of the job above the layer k, or in none; layers count from 0
abbrev pub is_above_layer : Job → ℕ → ℕ → Bool
is_above_layer job k v = is_left job.rows (reads_needed job.core.program.fold) (suc k) v
