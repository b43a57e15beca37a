-- What holds of all reads of rows in flat lists, and other sources in their place.
use Rattle.std.proofs.Common.{◌≡◌, ℕ, zero, suc, ◌+◌, ◌-◌, ◌^◌, ◌<◌, ◌≤◌, List, [], ◌∷◌, length, map, get_or, take, drop, refl, ap, sym, ◌∙◌, arith, inl, inr}
use Rattle.std.specs.Prelude.{All, slice_range}
use Rattle.std.proofs.lemmas.Bool.{cases_lt}
use Rattle.std.proofs.lemmas.List.{length-map, get_or-map, take-map, drop-map, same_lists, get_or_default}
use Rattle.std.proofs.lemmas.List.Elements.{All-take, All-drop}
use Rattle.std.proofs.lemmas.List.Edits.{get_or-between}
use Rattle.px_base.specs.declared.graph.Read.{Read}
use Rattle.px_base.specs.Values.{IsWeight}
use Rattle.px_base.specs.Graphs.{HasWeights}
use Rattle.px_base.specs.FlatRows.{AreFlat, read_with, reads_in, row_in, rows_in, with_source, with_sources}
use Rattle.px_base.proofs.FlatReads.{length-reads_in, get_or-reads_in}
use Rattle.px_base.proofs.FlatRanges.{length-rows_in, row-rows_in, length-slice_range, row_order, row_within}
use Rattle.px_base.proofs.Positions.{at_position}

-- ---- what holds of all reads

pub all_rows : (P : Read → Type 0) (starts sources weights : List ℕ) → All P (reads_in sources weights) → All (λ row. All P row) (rows_in starts sources weights)
all_rows P starts sources weights all v d inside =
    let row : get_or (rows_in starts sources weights) v d ≡ row_in starts sources weights v
    = at_position (length starts - 1) (row_in starts sources weights) v d (omega (arith, length-rows_in starts sources weights)) in
    rw row (All-take P (get_or starts (v + 1) 0 - get_or starts v 0) (drop (get_or starts v 0) (reads_in sources weights)) (All-drop P (get_or starts v 0) (reads_in sources weights) all))

-- each place belongs to one of the first n rows, where they reach it
pub row_with : (starts : List ℕ) (k n : ℕ) → get_or starts 0 0 ≤ k → k < get_or starts n 0 → (v : ℕ) × (v < n) × (get_or starts v 0 ≤ k) × (k < get_or starts (v + 1) 0)
row_with starts k zero low high = absurd (omega arith)
row_with starts k (suc n) low high = elim (cases_lt k (get_or starts n 0)) [
  | inl before ↦ (let found = row_with starts k n low before in (found.0, omega (arith, found.1), found.2, found.3))
  | inr here ↦ (n, omega arith, here, (let next : suc n ≡ n + 1 = omega arith in rw next at high))
]

pub all_reads : (P : Read → Type 0) (starts sources weights : List ℕ) → AreFlat starts sources weights → All (λ row. All P row) (rows_in starts sources weights) → All P (reads_in sources weights)
all_reads P starts sources weights flat all k d inside =
    let count : length (reads_in sources weights) ≡ length sources = length-reads_in sources weights flat.both in
    let found = row_with starts k (length starts - 1) (omega (arith, flat.first)) (omega (arith, flat.last)) in
    let v = found.0 in
    let at : v + 1 < length starts = omega (arith, found.1) in
    let from = get_or starts v 0 in
    let to = get_or starts (v + 1) 0 in
    let row : get_or (rows_in starts sources weights) v [] ≡ row_in starts sources weights v = row-rows_in starts sources weights v at in
    let size : length (row_in starts sources weights v) ≡ to - from =
    length-slice_range (reads_in sources weights) from to (row_order starts sources weights flat v at) (omega (arith, row_within starts sources weights flat v at)) in
    let there : k - from < length (row_in starts sources weights v) = omega (arith, found.2, found.3) in
    let held : All P (row_in starts sources weights v) = rw row at (all v [] (omega (arith, length-rows_in starts sources weights))) in
    let same : from + (k - from) ≡ k = omega (arith, found.2) in
    let is : get_or (row_in starts sources weights v) (k - from) d ≡ get_or (reads_in sources weights) k d =
    get_or-between (reads_in sources weights) from to (k - from) d (omega (arith, found.2, found.3)) ∙ ap (λ j. get_or (reads_in sources weights) j d) same in
    rw is at (held (k - from) d there)

pub all_sources : (P : ℕ → Type 0) (sources weights : List ℕ) → length weights ≡ length sources → All (λ (r : Read). P r.source) (reads_in sources weights) → All P sources
all_sources P sources weights both all k d inside =
    let is : get_or (reads_in sources weights) k (read_with 0 0) ≡ read_with (get_or sources k 0) (get_or weights k 0) = get_or-reads_in sources weights k (read_with 0 0) inside (omega (arith, both)) in
    let held : P (get_or (reads_in sources weights) k (read_with 0 0)).source = all k (read_with 0 0) (omega (arith, length-reads_in sources weights both)) in
    rw (get_or_default sources k d 0 inside) (rw is at held)

pub sources_all : (P : ℕ → Type 0) (sources weights : List ℕ) → length weights ≡ length sources → All P sources → All (λ (r : Read). P r.source) (reads_in sources weights)
sources_all P sources weights both all k d inside =
    let here : k < length sources = omega (arith, length-reads_in sources weights both) in
    rw (get_or-reads_in sources weights k d here (omega (arith, both))) (all k 0 here)

pub weights_all : (P : ℕ → Type 0) (sources weights : List ℕ) → length weights ≡ length sources → All P weights → All (λ (r : Read). P r.weight) (reads_in sources weights)
weights_all P sources weights both all k d inside =
    let here : k < length sources = omega (arith, length-reads_in sources weights both) in
    rw (get_or-reads_in sources weights k d here (omega (arith, both))) (all k 0 (omega (arith, both)))

pub have_weights : (starts sources weights : List ℕ) → length weights ≡ length sources → ((k : ℕ) → get_or weights k 0 < 2 ^ 32) → HasWeights (rows_in starts sources weights)
have_weights starts sources weights both small =
    all_rows (λ (r : Read). IsWeight r.weight) starts sources weights
    (weights_all IsWeight sources weights both (λ k d inside. rw (get_or_default weights k d 0 inside) (small k)))

-- ---- other sources

reads_in-map : (f : ℕ → ℕ) (sources weights : List ℕ) → reads_in (map f sources) weights ≡ map (with_source f) (reads_in sources weights)
reads_in-map f [] weights = refl
reads_in-map f (s ∷ sources) [] = refl
reads_in-map f (s ∷ sources) (w ∷ weights) = ap (λ rest. read_with (f s) w ∷ rest) (reads_in-map f sources weights)

row_in-map : (f : ℕ → ℕ) (starts sources weights : List ℕ) (v : ℕ) → row_in starts (map f sources) weights v ≡ map (with_source f) (row_in starts sources weights v)
row_in-map f starts sources weights v =
    let a = get_or starts v 0 in
    let b = get_or starts (v + 1) 0 in
    ap (λ reads. slice_range reads a b) (reads_in-map f sources weights)
    ∙ ap (take (b - a)) (drop-map (with_source f) a (reads_in sources weights))
    ∙ take-map (with_source f) (b - a) (drop a (reads_in sources weights))

pub rows_in-map : (f : ℕ → ℕ) (starts sources weights : List ℕ) → rows_in starts (map f sources) weights ≡ with_sources f (rows_in starts sources weights)
rows_in-map f starts sources weights =
    same_lists (rows_in starts (map f sources) weights) (with_sources f (rows_in starts sources weights))
    (length-rows_in starts (map f sources) weights ∙ sym (length-rows_in starts sources weights) ∙ sym (length-map (rows_in starts sources weights) (map (with_source f))))
    (λ v d inside.
    let below : v < length starts - 1 = omega (arith, length-rows_in starts (map f sources) weights) in
    at_position (length starts - 1) (row_in starts (map f sources) weights) v d below
    ∙ row_in-map f starts sources weights v
    ∙ ap (map (with_source f)) (sym (at_position (length starts - 1) (row_in starts sources weights) v [] below))
    ∙ sym (get_or-map (map (with_source f)) (rows_in starts sources weights) v [] d (omega (arith, length-rows_in starts sources weights))))

pub flat_same_size : (starts sources weights more : List ℕ) → length more ≡ length sources → AreFlat starts sources weights → AreFlat starts more weights
flat_same_size starts sources weights more same flat = record {
  first = flat.first;
  never_fall = flat.never_fall;
  last = flat.last ∙ sym same;
  both = flat.both ∙ sym same;
  room = omega (arith, flat.room);
}

-- what holds of the sources of all rows holds of the flat list of them
pub rows_to_sources : (P : ℕ → Type 0) (starts sources weights : List ℕ) → AreFlat starts sources weights → All (λ row. All (λ (r : Read). P r.source) row) (rows_in starts sources weights) → All P sources
rows_to_sources P starts sources weights flat all = all_sources P sources weights flat.both (all_reads (λ (r : Read). P r.source) starts sources weights flat all)

pub sources_to_rows : (P : ℕ → Type 0) (starts sources weights : List ℕ) → length weights ≡ length sources → All P sources → All (λ row. All (λ (r : Read). P r.source) row) (rows_in starts sources weights)
sources_to_rows P starts sources weights both all = all_rows (λ (r : Read). P r.source) starts sources weights (sources_all P sources weights both all)
