-- The graph of rows in order.
use Rattle.std.proofs.Common.{◌≡◌, ℕ, suc, ◌+◌, ◌<◌, List, [], ◌∷◌, length, map, get_or, refl, ap, sym, ◌∙◌, arith}
use Rattle.std.specs.Prelude.{filter}
use Rattle.std.specs.List.Sorted.{IsStrictlyIncreasing}
use Rattle.std.proofs.lemmas.List.{length-map, get_or-map}
use Rattle.std.proofs.lemmas.List.Elements.{AllZip-get_or, length_all_zip}
use Rattle.std.proofs.lemmas.List.Kept.{IsStrictlyIncreasing-filter}
use Rattle.std.proofs.lemmas.List.Sorted.{length_permutation}
use Rattle.px_base.specs.declared.graph.Edge.{Edge}
use Rattle.px_base.specs.declared.graph.Read.{Read}
use Rattle.px_base.specs.declared.program.Form.{Form}
use Rattle.px_base.specs.declared.program.Form.TheVariants.{Simple}
use Rattle.px_base.specs.declared.program.Rank.{Rank}
use Rattle.px_base.specs.declared.program.Reads.TheVariants as reads_kind
use Rattle.px_base.specs.Values.{by_position, positions_below}
use Rattle.px_base.specs.Graphs.{IsGraphOf, IsRowOf, is_neighbour, reads_of, row_at, unit_read}
use Rattle.px_base.proofs.Members.{range_rises}
use Rattle.px_base.proofs.Positions.{at_position, length_by_position}
use Rattle.graph_forms.specs.Ordering.{AreRowsOf, earlier_reads}
use Rattle.graph_forms.proofs.Made.{graph_made}
use Rattle.graph_forms.proofs.Ordered.{rising_row}

-- ---- rows that are in order by themselves

rising_units : (members : List ℕ) → IsStrictlyIncreasing members → IsRowOf (map unit_read members) (map unit_read members)
rising_units members rising =
    rising_row (map unit_read members)
    (λ k d inside.
    let here : k + 1 < length members = omega (arith, inside, length-map members unit_read) in
    let one : get_or (map unit_read members) k d ≡ unit_read (get_or members k 0) = get_or-map unit_read members k 0 d (omega arith) in
    let two : get_or (map unit_read members) (k + 1) d ≡ unit_read (get_or members (k + 1) 0) = get_or-map unit_read members (k + 1) 0 d here in
    rw (one, two) (rising k here))

simple_in_order : (n : ℕ) (edges : List Edge) (v : ℕ) → IsRowOf (reads_of Simple n edges v) (reads_of Simple n edges v)
simple_in_order n edges v = rising_units (filter (is_neighbour edges v) (positions_below n)) (IsStrictlyIncreasing-filter (is_neighbour edges v) (positions_below n) (range_rises 0 n))

-- rows that are each in order
all_in_order : (rows : List (List Read)) → ((v : ℕ) → v < length rows → IsRowOf (row_at rows v) (row_at rows v)) → AreRowsOf rows rows
all_in_order [] each = tt
all_in_order (row ∷ rows) each = (each 0 (omega arith), all_in_order rows (λ v below. each (suc v) (omega arith)))

pub simple_rows_in_order : (n : ℕ) (edges : List Edge) (rows : List (List Read)) → rows ≡ by_position n (reads_of Simple n edges) → AreRowsOf (by_position n (reads_of Simple n edges)) rows
simple_rows_in_order n edges rows is =
    rw is (all_in_order (by_position n (reads_of Simple n edges))
    (λ v below.
    let row : row_at (by_position n (reads_of Simple n edges)) v ≡ reads_of Simple n edges v = at_position n (reads_of Simple n edges) v [] (omega (arith, below, length_by_position n (reads_of Simple n edges))) in
    rw row (simple_in_order n edges v)))

-- ---- the graph

same_lengths : (reads rows : List (List Read)) → AreRowsOf reads rows → map (λ (row : List Read). length row) rows ≡ map (λ (row : List Read). length row) reads
same_lengths [] [] are = refl
same_lengths [] (row ∷ rows) are = absurd are
same_lengths (r ∷ reads) [] are = absurd are
same_lengths (r ∷ reads) (row ∷ rows) are =
    let one = length_permutation r row are.0.same in
    let rest = same_lengths reads rows are.1 in
    λ i. one i ∷ rest i

pub graph_of_all : (form : Form) (n : ℕ) (edges : List Edge) (rows : List (List Read)) (degrees : List ℕ) → AreRowsOf (by_position n (reads_of form n edges)) rows → degrees ≡ map (λ (row : List Read). length row) rows →
    IsGraphOf form reads_kind.All n edges (record { n = n; rows = rows; degrees = degrees })
graph_of_all form n edges rows degrees are lengths =
    let reads = by_position n (reads_of form n edges) in
    let count : length reads ≡ n = length_by_position n (reads_of form n edges) in
    graph_made form reads_kind.All n edges reads (record { n = n; rows = rows; degrees = degrees }) refl (sym count) (sym (length_all_zip IsRowOf reads rows are))
    (lengths ∙ same_lengths reads rows are)
    (λ v below. AllZip-get_or IsRowOf reads rows v [] [] are below)

pub graph_of_earlier : (form : Form) (rank : Rank) (n : ℕ) (edges : List Edge) (rows kept ordered : List (List Read)) (degrees : List ℕ) → rows ≡ by_position n (reads_of form n edges) →
    degrees ≡ map (λ (row : List Read). length row) rows → kept ≡ by_position (length rows) (earlier_reads rank degrees rows) → AreRowsOf kept ordered →
    IsGraphOf form (reads_kind.Earlier rank) n edges (record { n = n; rows = ordered; degrees = degrees })
graph_of_earlier form rank n edges rows kept ordered degrees filled lengths is are =
    let count : length rows ≡ n = ap length filled ∙ length_by_position n (reads_of form n edges) in
    let size : length kept ≡ length rows = ap length is ∙ length_by_position (length rows) (earlier_reads rank degrees rows) in
    graph_made form (reads_kind.Earlier rank) n edges rows (record { n = n; rows = ordered; degrees = degrees }) filled (sym count) (sym (length_all_zip IsRowOf kept ordered are) ∙ size) lengths
    (λ v below.
    let row : get_or kept v [] ≡ earlier_reads rank degrees rows v = ap (λ k. get_or k v []) is ∙ at_position (length rows) (earlier_reads rank degrees rows) v [] below in
    rw row at (AllZip-get_or IsRowOf kept ordered v [] [] are (omega (arith, size))))
