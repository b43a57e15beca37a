-- A graph of a list of edges is built for its program, and its job is sound.
use Rattle.std.proofs.Common.{◌≡◌, ℕ, ◌≤◌, List, length, subst, sym, arith}
use Rattle.std.specs.Prelude.{IsOk}
use Rattle.px_base.specs.declared.TheConstants.{MOST_READS, MOST_VERTICES}
use Rattle.px_base.specs.declared.graph.EdgeList.{EdgeList}
use Rattle.px_base.specs.declared.graph.ReadGraph.{ReadGraph}
use Rattle.px_base.specs.declared.program.CoreProgram.{CoreProgram}
use Rattle.px_base.specs.declared.program.Program.{Program}
use Rattle.px_base.specs.Classes.{class_of}
use Rattle.px_base.specs.Core.{core_form}
use Rattle.px_base.specs.Graphs.{IsGraphOf, RowsFit, read_count}
use Rattle.px_base.specs.Lines.{EdgeListFits}
use Rattle.px_base.specs.RowTexts.{IsRowProgram}
use Rattle.px_base.specs.Values.{IsValueList}
use Rattle.answers.specs.Built.{IsBuilt}
use Rattle.hub_terms.specs.Jobs.{IsSound, job_of}
use Rattle.job_laws.proofs.Built.{built_is_sound}

pub built_on : (p : Program) (list : EdgeList) (graph : ReadGraph) → EdgeListFits list → IsGraphOf p.form p.reads (length list.ids) list.edges graph → IsBuilt p graph
built_on p list graph fits built = record {
  edges = list.edges;
  ends = λ k d inside. let ends = fits.ends k d inside in (omega (arith, ends.0, built.size), omega (arith, ends.1, built.size));
  graph = subst (λ (n : ℕ). IsGraphOf p.form p.reads n list.edges graph) (sym built.size) built;
}

-- the job of a graph that is built for its program is sound
pub built_job : (p : Program) (graph : ReadGraph) (core : CoreProgram) (starts own : List ℕ) (count : ℕ) → IsOk (class_of p) → IsRowProgram p → IsBuilt p graph → graph.n ≡ count → RowsFit graph.n graph.rows →
    read_count graph.rows ≤ MOST_READS → count ≤ MOST_VERTICES → IsValueList count starts → own ≡ starts → core ≡ core_form p → IsSound (job_of graph core own)
built_job p graph core starts own count accepted numbers built size rows reads few values same form = rw (same, form)
    (built_is_sound p graph starts accepted numbers built rows (omega (arith, size, few)) reads (subst (λ (n : ℕ). IsValueList n starts) (sym size) values))
