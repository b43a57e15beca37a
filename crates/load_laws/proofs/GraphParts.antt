-- The parts of a graph of edges have loads.
use Rattle.std.proofs.Common.{◌≡◌, ℕ, ◌<◌, ◌≤◌, List, [], length, subst, arith}
use Rattle.std.specs.Prelude.{All}
use Rattle.std.specs.List.Sorted.{IsSortedBy}
use Rattle.std.proofs.lemmas.List.{get_or_default}
use Rattle.px_base.specs.declared.graph.Edge.{Edge}
use Rattle.px_base.specs.declared.graph.Read.{Read}
use Rattle.px_base.specs.declared.graph.ReadGraph.{ReadGraph}
use Rattle.px_base.specs.declared.program.Form.{Form}
use Rattle.px_base.specs.declared.program.Reads.{Reads}
use Rattle.px_base.specs.declared.TheConstants.{MOST_READS, MOST_VERTICES}
use Rattle.px_base.specs.Values.{IsValue, IsWeight}
use Rattle.px_base.specs.Graphs.{IsGraphOf, RowsFit, is_lower_read, read_count}
use Rattle.px_base.specs.Parts.{IsWorkerCuts, high_of, low_of, part_count, part_of}
use Rattle.partitioner.proofs.Fitting.{fewer_reads, part_fits, part_holds}
use Rattle.load_laws.specs.PartFrames.{IsLoadable}

pub rows_in_order : (form : Form) (reads : Reads) (n : ℕ) (edges : List Edge) (graph : ReadGraph) → IsGraphOf form reads n edges graph → All (λ row. IsSortedBy is_lower_read row) graph.rows
rows_in_order form reads n edges graph is k d inside =
    let long = is.one_each in
    subst (λ (row : List Read). IsSortedBy is_lower_read row) (get_or_default graph.rows k [] d inside) (is.rows k (omega arith)).ordered

pub loadable : (form : Form) (reads : Reads) (n : ℕ) (edges : List Edge) (graph : ReadGraph) (starts cuts : List ℕ) (i : ℕ)
    → IsGraphOf form reads n edges graph → n ≤ MOST_VERTICES → RowsFit n graph.rows → read_count graph.rows ≤ MOST_READS → length starts ≡ n → All IsValue starts → IsWorkerCuts n cuts → i < part_count cuts
    → IsLoadable (part_of graph.rows starts cuts i)
loadable form reads n edges graph starts cuts i is room fits few one_each values cut inside = record {
  fits = part_fits n graph.rows starts cuts i room fits one_each values cut inside;
  weights = part_holds (λ (row : List Read). All (λ r. IsWeight r.weight) row) graph.rows (low_of cuts i) (high_of cuts i) fits.weights;
  reads = let fewer = fewer_reads graph.rows (low_of cuts i) (high_of cuts i) in omega arith;
  ordered = part_holds (λ (row : List Read). IsSortedBy is_lower_read row) graph.rows (low_of cuts i) (high_of cuts i) (rows_in_order form reads n edges graph is);
}
