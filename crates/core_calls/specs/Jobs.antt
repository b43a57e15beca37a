-- Jobs that are cut for workers.
use Rattle.std.specs.Prelude.{◌≡◌, ℕ, List, length}
use Rattle.px_base.specs.declared.graph.ReadGraph.{ReadGraph}
use Rattle.px_base.specs.declared.program.CoreProgram.{CoreProgram}
use Rattle.px_base.specs.Parts.{IsWorkerCuts}
use Rattle.hub_terms.specs.Jobs.{IsSound, job_of}

-- a sound job, and cuts of its vertices
pub record IsCutJob (graph : ReadGraph) (core : CoreProgram) (starts ends : List ℕ) : Type 0 where
  pub sound : IsSound (job_of graph core starts)
  pub one_each : length graph.rows ≡ graph.n
  pub cuts : IsWorkerCuts graph.n ends
