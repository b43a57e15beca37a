-- The reads of a graph are edges of its edge list.
use Rattle.std.proofs.Common.{◌≡◌, ℕ, ◌<◌, true, List, [], length, refl, sym, ap, ◌∙◌, subst, arith}
use Rattle.std.specs.Prelude.{◌==◌, nat_lt, All, Contains, filter}
use Rattle.std.proofs.lemmas.Bool.{eq-eqb, eqb-true, lt-ltb, ltb-true}
use Rattle.std.proofs.lemmas.List.{get_or_default}
use Rattle.std.proofs.lemmas.List.Sorted.{Contains-permutation, IsPermutation-sym}
use Rattle.px_base.specs.declared.graph.Edge.{Edge}
use Rattle.px_base.specs.declared.graph.Read.{Read}
use Rattle.px_base.specs.declared.graph.ReadGraph.{ReadGraph}
use Rattle.px_base.specs.declared.program.Form.TheVariants.{Given, Simple}
use Rattle.px_base.specs.declared.program.Rank.TheVariants.{ById}
use Rattle.px_base.specs.declared.program.Reads.TheVariants as reads_kind
use Rattle.px_base.specs.Values.{IsWeight, positions_below}
use Rattle.px_base.specs.Graphs.{IsGraphOf, RowsFit, is_neighbour, read_of_source, reads_of, row_at, unit_read}
use Rattle.walk_terms.specs.Walks.{HasRead}
use Rattle.walk_terms.proofs.ReadEnds.{reader_inside}
use Rattle.px_base.proofs.Members.{kept, kept_from, mapped, mapped_from, of_member, of_members, position, position_from}

abbrev read_with : ℕ → ℕ → Read
read_with u w = record { source = u; weight = w }

abbrev pub edge_with : ℕ → ℕ → ℕ → Edge
edge_with u v w = record { source = u; target = v; weight = w }

-- both ends of the edge are among n vertices, and its weight is within its limit
abbrev pub IsInside : ℕ → Edge → Type 0
IsInside n e = (e.source < n) × (e.target < n) × IsWeight e.weight

-- rows fit where each read does
rows_fit : (n : ℕ) (rows : List (List Read)) → length rows ≡ n → ((v : ℕ) (r : Read) → Contains (row_at rows v) r → (r.source < n) × IsWeight r.weight) → RowsFit n rows
rows_fit n rows sized each = record {
  one_each = sized;
  sources = λ v d below. rw (get_or_default rows v d [] below) (of_members (λ r. r.source < n) (row_at rows v) (λ r read. (each v r read).0));
  weights = λ v d below. rw (get_or_default rows v d [] below) (of_members (λ r. IsWeight r.weight) (row_at rows v) (λ r read. (each v r read).1));
}

-- ---- as given

-- the reads of v in the given form are the edges to v
pub given_edge : (n : ℕ) (edges : List Edge) (graph : ReadGraph) (v u w : ℕ) → IsGraphOf Given reads_kind.All n edges graph → HasRead graph.rows v u w →
    Contains edges (edge_with u v w)
given_edge n edges graph v u w is read =
    let inside : v < n = rw is.one_each at (reader_inside graph.rows v u w read) in
    let among : Contains (reads_of Given n edges v) (read_with u w) =
    Contains-permutation (row_at graph.rows v) (reads_of Given n edges v) (read_with u w) (IsPermutation-sym (reads_of Given n edges v) (row_at graph.rows v) (is.rows v inside).same) read in
    let from : (e : Edge) × Contains (filter (λ e. e.target == v) edges) e × (read_of_source e ≡ read_with u w) =
    mapped_from read_of_source (filter (λ e. e.target == v) edges) (read_with u w) among in
    let there : Contains edges from.0 × ((from.0.target == v) ≡ true) = kept_from (λ e. e.target == v) edges from.0 from.1 in
    let source : from.0.source ≡ u = ap (λ r. r.source) from.2 in
    let weight : from.0.weight ≡ w = ap (λ r. r.weight) from.2 in
    let target : from.0.target ≡ v = eqb-true from.0.target v there.1 in
    let same : from.0 ≡ edge_with u v w =
    ap (λ a. edge_with a from.0.target from.0.weight) source ∙ ap (λ a. edge_with u a from.0.weight) target ∙ ap (edge_with u v) weight in
    subst (λ (e : Edge). Contains edges e) same there.0

pub given_read : (n : ℕ) (edges : List Edge) (graph : ReadGraph) (v u w : ℕ) → IsGraphOf Given reads_kind.All n edges graph → v < n → Contains edges (edge_with u v w) →
    HasRead graph.rows v u w
given_read n edges graph v u w is inside edge =
    let among : Contains (reads_of Given n edges v) (read_with u w) =
    mapped read_of_source (filter (λ e. e.target == v) edges) (edge_with u v w) (kept (λ e. e.target == v) edges (edge_with u v w) edge (eq-eqb v v refl)) in
    Contains-permutation (reads_of Given n edges v) (row_at graph.rows v) (read_with u w) (is.rows v inside).same among

pub given_fits : (n : ℕ) (edges : List Edge) (graph : ReadGraph) → All (IsInside n) edges → IsGraphOf Given reads_kind.All n edges graph → RowsFit n graph.rows
given_fits n edges graph ends is = rows_fit n graph.rows is.one_each (λ v r read.
    let fits : IsInside n (edge_with r.source v r.weight) = of_member (IsInside n) edges (edge_with r.source v r.weight) ends (given_edge n edges graph v r.source r.weight is read) in
    (fits.0, fits.2))

-- ---- in the simple form

-- the reads of v in the simple form are of its neighbours
pub is_of_neighbour : (n : ℕ) (edges : List Edge) (v u w : ℕ) → Contains (reads_of Simple n edges v) (read_with u w) →
    (u < n) × (w ≡ 1) × (is_neighbour edges v u ≡ true)
is_of_neighbour n edges v u w among =
    let from : (a : ℕ) × Contains (filter (is_neighbour edges v) (positions_below n)) a × (unit_read a ≡ read_with u w) =
    mapped_from unit_read (filter (is_neighbour edges v) (positions_below n)) (read_with u w) among in
    let there : Contains (positions_below n) from.0 × (is_neighbour edges v from.0 ≡ true) = kept_from (is_neighbour edges v) (positions_below n) from.0 from.1 in
    let source : from.0 ≡ u = ap (λ r. r.source) from.2 in
    let weight : 1 ≡ w = ap (λ r. r.weight) from.2 in
    (omega (arith, source, position_from n from.0 there.0), sym weight, ap (is_neighbour edges v) (sym source) ∙ there.1)

pub has_neighbour : (n : ℕ) (edges : List Edge) (v u : ℕ) → u < n → is_neighbour edges v u ≡ true → Contains (reads_of Simple n edges v) (unit_read u)
has_neighbour n edges v u source near =
    mapped unit_read (filter (is_neighbour edges v) (positions_below n)) u (kept (is_neighbour edges v) (positions_below n) u (position n u source) near)

pub simple_neighbour : (n : ℕ) (edges : List Edge) (graph : ReadGraph) (v u w : ℕ) → IsGraphOf Simple reads_kind.All n edges graph → HasRead graph.rows v u w →
    (u < n) × (w ≡ 1) × (is_neighbour edges v u ≡ true)
simple_neighbour n edges graph v u w is read =
    let inside : v < n = rw is.one_each at (reader_inside graph.rows v u w read) in
    is_of_neighbour n edges v u w
    (Contains-permutation (row_at graph.rows v) (reads_of Simple n edges v) (read_with u w) (IsPermutation-sym (reads_of Simple n edges v) (row_at graph.rows v) (is.rows v inside).same) read)

pub simple_read : (n : ℕ) (edges : List Edge) (graph : ReadGraph) (v u : ℕ) → IsGraphOf Simple reads_kind.All n edges graph → u < n → v < n → is_neighbour edges v u ≡ true →
    HasRead graph.rows v u 1
simple_read n edges graph v u is source inside near =
    Contains-permutation (reads_of Simple n edges v) (row_at graph.rows v) (unit_read u) (is.rows v inside).same (has_neighbour n edges v u source near)

pub simple_fits : (n : ℕ) (edges : List Edge) (graph : ReadGraph) → IsGraphOf Simple reads_kind.All n edges graph → RowsFit n graph.rows
simple_fits n edges graph is = rows_fit n graph.rows is.one_each (λ v r read.
    let known : (r.source < n) × (r.weight ≡ 1) × (is_neighbour edges v r.source ≡ true) = simple_neighbour n edges graph v r.source r.weight is read in
    (known.0, omega (arith, known.1)))

-- ---- in the simple form, of vertices that stand before the reader

abbrev earlier_reads : ℕ → List Edge → ReadGraph → ℕ → List Read
earlier_reads n edges graph v = filter (λ r. nat_lt r.source v) (reads_of Simple n edges v)

pub earlier_neighbour : (n : ℕ) (edges : List Edge) (graph : ReadGraph) (v u w : ℕ) → IsGraphOf Simple (reads_kind.Earlier ById) n edges graph → HasRead graph.rows v u w →
    (u < n) × (w ≡ 1) × (is_neighbour edges v u ≡ true) × (u < v)
earlier_neighbour n edges graph v u w is read =
    let inside : v < n = rw is.one_each at (reader_inside graph.rows v u w read) in
    let among : Contains (earlier_reads n edges graph v) (read_with u w) =
    Contains-permutation (row_at graph.rows v) (earlier_reads n edges graph v) (read_with u w) (IsPermutation-sym (earlier_reads n edges graph v) (row_at graph.rows v) (is.rows v inside).same) read in
    let both = kept_from (λ r. nat_lt r.source v) (reads_of Simple n edges v) (read_with u w) among in
    let known : (u < n) × (w ≡ 1) × (is_neighbour edges v u ≡ true) = is_of_neighbour n edges v u w both.0 in
    (known.0, known.1, known.2, ltb-true u v both.1)

pub earlier_read : (n : ℕ) (edges : List Edge) (graph : ReadGraph) (v u : ℕ) → IsGraphOf Simple (reads_kind.Earlier ById) n edges graph → u < v → v < n →
    is_neighbour edges v u ≡ true → HasRead graph.rows v u 1
earlier_read n edges graph v u is before inside near =
    Contains-permutation (earlier_reads n edges graph v) (row_at graph.rows v) (unit_read u) (is.rows v inside).same
    (kept (λ r. nat_lt r.source v) (reads_of Simple n edges v) (unit_read u) (has_neighbour n edges v u (omega (arith, before, inside)) near) (lt-ltb u v before))

pub earlier_fits : (n : ℕ) (edges : List Edge) (graph : ReadGraph) → IsGraphOf Simple (reads_kind.Earlier ById) n edges graph → RowsFit n graph.rows
earlier_fits n edges graph is = rows_fit n graph.rows is.one_each (λ v r read.
    let known : (r.source < n) × (r.weight ≡ 1) × (is_neighbour edges v r.source ≡ true) × (r.source < v) = earlier_neighbour n edges graph v r.source r.weight is read in
    (known.0, omega (arith, known.1)))
