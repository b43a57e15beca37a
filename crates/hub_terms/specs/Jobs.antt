-- What is to be computed, and what a job needs before it can run.
use Rattle.std.specs.Prelude.{◌≡◌, ℕ, ◌≤◌, ◌^◌, List, length, All, IsOk, ⊤, MatchResult}
use Rattle.std.specs.List.Sorted.{IsSortedBy}
use Rattle.px_base.specs.declared.TheConstants.{MOST_READS, MOST_VERTICES}
use Rattle.px_base.specs.declared.graph.Read.{Read}
use Rattle.px_base.specs.declared.graph.ReadGraph.{ReadGraph}
use Rattle.px_base.specs.declared.program.CoreProgram.{CoreProgram}
use Rattle.px_base.specs.declared.program.Class.{Class}
use Rattle.px_base.specs.declared.program.Class.TheVariants.{SelfStabilising, LocallyCorrecting, GloballyCorrecting}
use Rattle.px_base.specs.Values.{IsValueList}
use Rattle.px_base.specs.Graphs.{RowsFit, read_count, row_at, is_lower_read}
use Rattle.px_base.specs.Core.{core_form}
use Rattle.px_base.specs.Classes.{class_of}
use Rattle.px_base.specs.Laws.{IsOrdered}
use Rattle.px_base.specs.RowTexts.{IsRowProgram}
use Rattle.core_solver.specs.Mutual.{AreMutual, times_in_row}
use Rattle.hub_terms.specs.declared.tasks.Limits.{Limits}

-- the graph's rows, the program in core form, and the core start values
pub record Job : Type 0 where
  pub rows : List (List Read)
  pub core : CoreProgram
  pub starts : List ℕ

-- the job of this graph, program and start values
abbrev pub job_of : ReadGraph → CoreProgram → List ℕ → Job
job_of graph core starts = record { rows = graph.rows; core = core; starts = starts }

-- the limits are in range
pub record LimitsFit (limits : Limits) : Type 0 where
  pub lag : limits.lag ≤ 16
  pub rounds : (1 ≤ limits.rounds) × (limits.rounds ≤ 2 ^ 30)
  pub losses : limits.losses ≤ 1000

-- reading is mutual: each pair reads each other, once each way, or not at all, and nobody reads itself
pub record IsSymmetric (rows : List (List Read)) : Type 0 where
  pub both_ways : AreMutual rows
  pub once : (u v : ℕ) → times_in_row (row_at rows v) u ≤ 1
  pub no_loop : (v : ℕ) → times_in_row (row_at rows v) v ≡ 0

-- the rows are such as programs of the class have
abbrev pub RowsSuit : Class → List (List Read) → Type 0
RowsSuit SelfStabilising rows = IsOrdered rows
RowsSuit LocallyCorrecting rows = ⊤
RowsSuit GloballyCorrecting rows = IsSymmetric rows

-- The job is sound: the program is accepted and in core form, and has numbers that a row can have; the graph is within the
-- limits, in order, and suits the class; and each vertex has a start value.
pub record IsSound (job : Job) : Type 0 where
  pub core : job.core ≡ core_form job.core.program
  pub class : IsOk (class_of job.core.program)
  pub numbers : IsRowProgram job.core.program
  pub rows : RowsFit (length job.rows) job.rows
  pub vertices : length job.rows ≤ MOST_VERTICES
  pub reads : read_count job.rows ≤ MOST_READS
  pub ordered : All (λ row. IsSortedBy is_lower_read row) job.rows
  pub starts : IsValueList (length job.rows) job.starts
  pub suit : MatchResult (class_of job.core.program) (λ class. RowsSuit class job.rows) (λ refused. ⊥)
