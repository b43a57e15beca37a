-- The graph of finished rows.
use Rattle.std.proofs.Common.{◌≡◌, ℕ, ◌<◌, List, [], length, map, get_or, lit<, arith, ap, ◌∙◌, subst}
use Rattle.std.specs.Prelude.{◌==◌, All}
use Rattle.std.proofs.lemmas.List.{length-map, get_or-map, get_or_default}
use Rattle.std.proofs.lemmas.List.Elements.{All-weaker, All-filter, All-map}
use Rattle.std.proofs.lemmas.List.FromFn.{fill_by_all, get_or-range_with_len, length-range_with_len}
use Rattle.std.proofs.lemmas.List.Sorted.{All-permutation}
use Rattle.px_base.specs.declared.graph.Edge.{Edge}
use Rattle.px_base.specs.declared.graph.Read.{Read}
use Rattle.px_base.specs.declared.graph.ReadGraph.{ReadGraph}
use Rattle.px_base.specs.declared.program.Form.{Form}
use Rattle.px_base.specs.declared.program.Form.TheVariants.{Given, Back, Simple}
use Rattle.px_base.specs.declared.program.Reads.{Reads}
use Rattle.px_base.specs.declared.program.Reads.TheVariants as reads_kind
use Rattle.px_base.specs.Graphs.{IsGraphOf, IsRowOf, RowsFit, is_neighbour, kept_reads, read_of_source, read_of_target, reads_of, row_at, stands_before, unit_read}
use Rattle.px_base.specs.Values.{IsWeight, by_position, positions_below}
use Rattle.px_base.proofs.Positions.{at_position, length_by_position}

map_by_position : {X Y : Type 0} (g : X → Y) (n : ℕ) (f : ℕ → X) → map g (by_position n f) ≡ by_position n (λ v. g (f v))
map_by_position g n f =
    fill_by_all (λ v. g (f v)) (map g (by_position n f)) n (g (f 0)) (length-map (by_position n f) g ∙ length_by_position n f)
    (λ k below. let inside : k < length (by_position n f) = rw (length_by_position n f) below in
    get_or-map g (by_position n f) k (f k) (g (f 0)) inside ∙ ap g (at_position n f k (f k) below))

-- rows of the reads, then their lengths, then the rows in order
pub graph_made : (form : Form) (reads : Reads) (n : ℕ) (edges : List Edge) (rows : List (List Read)) (graph : ReadGraph) →
    rows ≡ by_position n (reads_of form n edges) → graph.n ≡ length rows → length graph.rows ≡ length rows → graph.degrees ≡ map (λ row. length row) rows →
    ((v : ℕ) → v < length rows → IsRowOf (kept_reads reads graph.degrees v (row_at rows v)) (row_at graph.rows v)) →
    IsGraphOf form reads n edges graph
graph_made form reads n edges rows graph filled size one_each lengths ordered =
    let count : length rows ≡ n = ap length filled ∙ length_by_position n (reads_of form n edges) in
    record {
      size = size ∙ count;
      one_each = one_each ∙ count;
      degrees = lengths ∙ ap (map (λ row. length row)) filled ∙ map_by_position (λ row. length row) n (reads_of form n edges);
      rows = λ v below.
          let is : row_at rows v ≡ reads_of form n edges v = ap (λ all. row_at all v) filled ∙ at_position n (reads_of form n edges) v [] below in
          subst (λ (row : List Read). IsRowOf (kept_reads reads graph.degrees v row) (row_at graph.rows v)) is (ordered v (rw count below));
    }

-- ---- each read is of one of n vertices

abbrev HasEnds : ℕ → Edge → Type 0
HasEnds n e = (e.source < n) × (e.target < n) × IsWeight e.weight

abbrev Fits : ℕ → Read → Type 0
Fits n r = (r.source < n) × IsWeight r.weight

reads_fit : (form : Form) (n : ℕ) (edges : List Edge) (v : ℕ) → All (HasEnds n) edges → All (Fits n) (reads_of form n edges v)
reads_fit Given n edges v ends =
    All-map (Fits n) read_of_source _ (All-filter (λ e. e.target == v) (λ e. Fits n (read_of_source e)) edges (All-weaker (HasEnds n) (λ e. Fits n (read_of_source e)) (λ e h. (h.0, h.2)) edges ends))
reads_fit Back n edges v ends =
    All-map (Fits n) read_of_target _ (All-filter (λ e. e.source == v) (λ e. Fits n (read_of_target e)) edges (All-weaker (HasEnds n) (λ e. Fits n (read_of_target e)) (λ e h. (h.1, h.2)) edges ends))
reads_fit Simple n edges v ends =
    All-map (Fits n) unit_read _ (All-filter (is_neighbour edges v) (λ u. Fits n (unit_read u)) (positions_below n)
    (λ k d below. let inside : k < n = rw (length-range_with_len 0 n) at below in
    (rw (get_or-range_with_len 0 n k d inside) (omega arith), lit< tt)))

kept_fit : (reads : Reads) (degrees : List ℕ) (v n : ℕ) (row : List Read) → All (Fits n) row → All (Fits n) (kept_reads reads degrees v row)
kept_fit reads_kind.All degrees v n row fit = fit
kept_fit (reads_kind.Earlier rank) degrees v n row fit = All-filter (λ r. stands_before rank degrees r.source v) (Fits n) row fit

row_fits : (form : Form) (reads : Reads) (n : ℕ) (edges : List Edge) (graph : ReadGraph) → All (HasEnds n) edges → IsGraphOf form reads n edges graph →
    (v : ℕ) (d : List Read) → v < length graph.rows → All (Fits n) (get_or graph.rows v d)
row_fits form reads n edges graph ends is v d below =
    let low : v < n = rw is.one_each at below in
    let row : List Read = row_at graph.rows v in
    let fit : All (Fits n) row = All-permutation (Fits n) (kept_reads reads graph.degrees v (reads_of form n edges v)) row (is.rows v low).same
    (kept_fit reads graph.degrees v n (reads_of form n edges v) (reads_fit form n edges v ends)) in
    subst (λ (r : List Read). All (Fits n) r) (get_or_default graph.rows v [] d below) fit

pub rows_fit : (form : Form) (reads : Reads) (n : ℕ) (edges : List Edge) (graph : ReadGraph) → All (HasEnds n) edges → IsGraphOf form reads n edges graph → RowsFit n graph.rows
rows_fit form reads n edges graph ends is = record {
  one_each = is.one_each;
  sources = λ v d below k e inside. (row_fits form reads n edges graph ends is v d below k e inside).0;
  weights = λ v d below k e inside. (row_fits form reads n edges graph ends is v d below k e inside).1;
}
