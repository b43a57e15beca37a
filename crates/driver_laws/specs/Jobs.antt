-- What a job needs before it can be run, and its parts.
use Rattle.std.specs.Prelude.{ℕ, ◌≤◌, length}
use Rattle.px_base.specs.declared.graph.Part.{Part}
use Rattle.px_base.specs.Parts.{block_cuts, part_of}
use Rattle.hub_terms.specs.Jobs.{IsSound, LimitsFit, job_of}
use Rattle.driver_laws.specs.declared.job.Job.{Job}

-- The job can be run: graph, program and core start values are those of a sound job, and the numbers of workers and of pieces and
-- the limits are in range.
pub record IsSoundJob (job : Job) : Type 0 where
  pub sound : IsSound (job_of job.graph job.core job.starts)
  pub workers : (1 ≤ job.workers) × (job.workers ≤ 64)
  pub limits : LimitsFit job.limits
  pub chunks : (1 ≤ job.chunks) × (job.chunks ≤ 64)

-- how many vertices the job has
abbrev pub vertices : Job → ℕ
vertices job = length job.graph.rows

-- the part of worker k
abbrev pub job_part : Job → ℕ → Part
job_part job k = part_of job.graph.rows job.starts (block_cuts (vertices job) job.workers) k
