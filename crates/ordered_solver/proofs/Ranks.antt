-- The graph of the earlier reads by a rank: how many vertices stand before a vertex is its place in a strict order.
use Rattle.std.proofs.Common.{◌≡◌, ℕ, zero, suc, ◌<◌, ◌≤◌, Bool, true, false, cond, List, [], ◌∷◌, length, get_or, refl, ◌∙◌, arith, inl, inr}
use Rattle.std.specs.Prelude.{◌==◌, All, Contains, IsTrue, count_by}
use Rattle.std.proofs.lemmas.Bool.{cases_lt}
use Rattle.std.proofs.lemmas.List.{get_or_past}
use Rattle.std.proofs.lemmas.List.Elements.{All-filter, All-map, All-nil, All-weaker, filter_passes}
use Rattle.std.proofs.lemmas.List.FromFn.{get_or-range_with_len, length-range_with_len}
use Rattle.std.proofs.lemmas.List.Sorted.{All-permutation}
use Rattle.std.proofs.lemmas.List.Sums.{sum_by-cons, sum_by-le-sum_by}
use Rattle.px_base.specs.declared.graph.Edge.{Edge}
use Rattle.px_base.specs.declared.graph.Read.{Read}
use Rattle.px_base.specs.declared.graph.ReadGraph.{ReadGraph}
use Rattle.px_base.specs.declared.program.Form.{Form}
use Rattle.px_base.specs.declared.program.Form.TheVariants.{Given, Back, Simple}
use Rattle.px_base.specs.declared.program.Rank.{Rank}
use Rattle.px_base.specs.declared.program.Reads.{Reads}
use Rattle.px_base.specs.declared.program.Reads.TheVariants as reads_kind
use Rattle.px_base.specs.declared.program.Reads.TheVariants.{Earlier}
use Rattle.px_base.specs.Values.{positions_below}
use Rattle.px_base.specs.Graphs.{IsGraphOf, is_neighbour, kept_reads, read_of_source, read_of_target, reads_of, row_at, stands_before, unit_read}
use Rattle.px_base.specs.Laws.{IsOrdered, ReadsEarlier}
use Rattle.px_base.proofs.Uniqueness.{before_and_before, never_before_itself}
use Rattle.ordered_solver.specs.Orders.{AreEarlier}

-- ---- a test that more pass

one_of : (b c : Bool) → (b ≡ true → c ≡ true) → cond b 1 0 ≤ cond c 1 0
one_of true c h = rw (h refl) (omega arith)
one_of false c h = omega arith

count_grows : (p q : ℕ → Bool) (xs : List ℕ) (x : ℕ) → ((u : ℕ) → p u ≡ true → q u ≡ true) → p x ≡ false → q x ≡ true → Contains xs x → count_by p xs < count_by q xs
count_grows p q [] x more absent is (i, below, here) = absurd (omega arith)
count_grows p q (y ∷ ys) x more absent is (zero, below, here) =
    let fails : p y ≡ false = rw here absent in
    let passes : q y ≡ true = rw here is in
    let rest : count_by p ys ≤ count_by q ys = sum_by-le-sum_by (λ u. cond (p u) 1 0) (λ u. cond (q u) 1 0) ys (λ u. one_of (p u) (q u) (more u)) in
    rw (sum_by-cons (λ u. cond (p u) 1 0) y ys, sum_by-cons (λ u. cond (q u) 1 0) y ys, fails, passes) (omega (arith, rest))
count_grows p q (y ∷ ys) x more absent is (suc i, below, here) =
    let rest : count_by p ys < count_by q ys = count_grows p q ys x more absent is (i, omega arith, here) in
    omega (arith, rest, one_of (p y) (q y) (more y), sum_by-cons (λ u. cond (p u) 1 0) y ys, sum_by-cons (λ u. cond (q u) 1 0) y ys)

-- ---- places

-- how many of n vertices stand before v
abbrev ahead : Rank → List ℕ → ℕ → ℕ → ℕ
ahead rank degrees n v = count_by (λ u. stands_before rank degrees u v) (positions_below n)

pub is_position : (n u : ℕ) → u < n → Contains (positions_below n) u
is_position n u below = (u, omega (arith, length-range_with_len 0 n), get_or-range_with_len 0 n u u below ∙ omega arith)

place_grows : (rank : Rank) (degrees : List ℕ) (n u v : ℕ) → u < n → IsTrue (stands_before rank degrees u v) → ahead rank degrees n u < ahead rank degrees n v
place_grows rank degrees n u v inside before =
    count_grows (λ w. stands_before rank degrees w u) (λ w. stands_before rank degrees w v) (positions_below n) u
    (λ w h. before_and_before rank degrees w u v h before) (never_before_itself rank degrees u) before (is_position n u inside)

-- ---- the graph

pub are_earlier : (form : Form) (rank : Rank) (n : ℕ) (edges : List Edge) (graph : ReadGraph) → IsGraphOf form (Earlier rank) n edges graph → AreEarlier (Earlier rank) graph
are_earlier form rank n edges graph is = λ v below.
    let inside : v < n = rw is.size at below in
    All-permutation (λ r. IsTrue (stands_before rank graph.degrees r.source v)) (kept_reads (Earlier rank) graph.degrees v (reads_of form n edges v)) (row_at graph.rows v) (is.rows v inside).same
    (filter_passes (λ r. stands_before rank graph.degrees r.source v) (reads_of form n edges v))

-- the same by what the class of a program promises of its reads
pub promised_earlier : (form : Form) (reads : Reads) (n : ℕ) (edges : List Edge) (graph : ReadGraph) → ReadsEarlier reads → IsGraphOf form reads n edges graph → AreEarlier reads graph
promised_earlier form reads_kind.All n edges graph promise is = absurd promise
promised_earlier form (reads_kind.Earlier rank) n edges graph promise is = are_earlier form rank n edges graph is

abbrev HasEnds : ℕ → Edge → Type 0
HasEnds n e = (e.source < n) × (e.target < n)

sources_within : (form : Form) (n : ℕ) (edges : List Edge) (v : ℕ) → All (HasEnds n) edges → All (λ r. r.source < n) (reads_of form n edges v)
sources_within Given n edges v ends =
    All-map (λ r. r.source < n) read_of_source _ (All-filter (λ e. e.target == v) (λ e. e.source < n) edges (All-weaker (HasEnds n) (λ e. e.source < n) (λ e h. h.0) edges ends))
sources_within Back n edges v ends =
    All-map (λ r. r.source < n) read_of_target _ (All-filter (λ e. e.source == v) (λ e. e.target < n) edges (All-weaker (HasEnds n) (λ e. e.target < n) (λ e h. h.1) edges ends))
sources_within Simple n edges v ends =
    All-map (λ r. r.source < n) unit_read _ (All-filter (is_neighbour edges v) (λ u. u < n) (positions_below n)
    (λ k d below. let inside : k < n = rw (length-range_with_len 0 n) at below in
    rw (get_or-range_with_len 0 n k d inside) (omega arith)))

row_sources : (form : Form) (rank : Rank) (n : ℕ) (edges : List Edge) (graph : ReadGraph) → All (HasEnds n) edges → IsGraphOf form (Earlier rank) n edges graph →
    (v : ℕ) → v < n → All (λ r. r.source < n) (row_at graph.rows v)
row_sources form rank n edges graph ends is v inside =
    All-permutation (λ r. r.source < n) (kept_reads (Earlier rank) graph.degrees v (reads_of form n edges v)) (row_at graph.rows v) (is.rows v inside).same
    (All-filter (λ r. stands_before rank graph.degrees r.source v) (λ r. r.source < n) (reads_of form n edges v) (sources_within form n edges v ends))

ordered_by : (rank : Rank) (degrees : List ℕ) (n : ℕ) (rows : List (List Read)) → length rows ≡ n →
    ((v : ℕ) → v < n → All (λ r. r.source < n) (row_at rows v)) → ((v : ℕ) → v < n → All (λ r. IsTrue (stands_before rank degrees r.source v)) (row_at rows v)) → IsOrdered rows
ordered_by rank degrees n rows count within earlier = record {
  place = ahead rank degrees n;
  before = λ v. elim (cases_lt v (length rows)) [
    | inl below ↦
        (let inside : v < n = rw count at below in
        λ k d low. (omega (arith, within v inside k d low, count), place_grows rank degrees n (get_or (row_at rows v) k d).source v (within v inside k d low) (earlier v inside k d low)))
    | inr past ↦ rw (get_or_past rows v [] past) (All-nil (λ r. (r.source < length rows) × (ahead rank degrees n r.source < ahead rank degrees n v)))
  ];
}

pub are_ordered : (form : Form) (rank : Rank) (n : ℕ) (edges : List Edge) (graph : ReadGraph) → All (HasEnds n) edges → IsGraphOf form (Earlier rank) n edges graph → IsOrdered graph.rows
are_ordered form rank n edges graph ends is =
    ordered_by rank graph.degrees n graph.rows is.one_each (row_sources form rank n edges graph ends is)
    (λ v inside. are_earlier form rank n edges graph is v (rw is.size inside))
