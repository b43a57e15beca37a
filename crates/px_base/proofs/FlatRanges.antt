-- Rows that lie one after another in a list.
use Rattle.std.proofs.Common.{◌≡◌, ℕ, zero, suc, ◌+◌, ◌-◌, ◌<◌, ◌≤◌, List, [], ◌∷◌, length, get_or, drop, add-one, ap, sym, ◌∙◌, arith}
use Rattle.std.specs.Prelude.{slice_range}
use Rattle.std.specs.List.Sorted.{IsNonDecreasing}
use Rattle.std.proofs.lemmas.List.{length-take-le, length-drop}
use Rattle.std.proofs.lemmas.List.Sums.{sum_by_push}
use Rattle.px_base.specs.declared.TheConstants.{MOST_READS}
use Rattle.px_base.specs.declared.graph.Read.{Read}
use Rattle.px_base.specs.Values.{by_position}
use Rattle.px_base.specs.Graphs.{read_count, row_at}
use Rattle.px_base.specs.FlatRows.{AreFlat, reads_in, row_in, rows_in}
use Rattle.px_base.proofs.FlatReads.{length-reads_in}
use Rattle.px_base.proofs.Positions.{by_position_more, length_by_position, at_position}

pub length-slice_range : {X : Type 0} (xs : List X) (i j : ℕ) → i ≤ j → j ≤ length xs → length (slice_range xs i j) ≡ j - i
length-slice_range xs i j order within = length-take-le (j - i) (drop i xs) (rw (length-drop i xs) (omega arith))

pub starts_rise : (starts sources weights : List ℕ) → AreFlat starts sources weights → (i j : ℕ) → i ≤ j → j + 1 ≤ length starts → get_or starts i 0 ≤ get_or starts j 0
starts_rise starts sources weights flat i j order inside = flat.never_fall i j 0 order (omega arith)

pub starts_within : (starts sources weights : List ℕ) → AreFlat starts sources weights → (v : ℕ) → v + 1 ≤ length starts → get_or starts v 0 ≤ length sources
starts_within starts sources weights flat v inside =
    omega (arith, starts_rise starts sources weights flat v (length starts - 1) (omega arith) (omega arith), flat.last)

pub row-rows_in : (starts sources weights : List ℕ) (v : ℕ) → v + 1 < length starts → row_at (rows_in starts sources weights) v ≡ row_in starts sources weights v
row-rows_in starts sources weights v inside = at_position (length starts - 1) (row_in starts sources weights) v [] (omega arith)

pub length-rows_in : (starts sources weights : List ℕ) → length (rows_in starts sources weights) ≡ length starts - 1
length-rows_in starts sources weights = length_by_position (length starts - 1) (row_in starts sources weights)

-- the first rows have the reads up to where the next one begins
pub read_count_front : (starts sources weights : List ℕ) → get_or starts 0 0 ≡ 0 → IsNonDecreasing starts → length weights ≡ length sources →
    ((v : ℕ) → v < length starts → get_or starts v 0 ≤ length sources) → (n : ℕ) → n + 1 ≤ length starts →
    read_count (by_position n (row_in starts sources weights)) ≡ get_or starts n 0
read_count_front starts sources weights first rise both within zero inside = sym first
read_count_front starts sources weights first rise both within (suc n) inside =
    let before : read_count (by_position n (row_in starts sources weights)) ≡ get_or starts n 0 = read_count_front starts sources weights first rise both within n (omega arith) in
    let one : read_count (by_position (n + 1) (row_in starts sources weights)) ≡ read_count (by_position n (row_in starts sources weights)) + length (row_in starts sources weights n)
    = ap read_count (by_position_more n (row_in starts sources weights)) ∙ sum_by_push (λ (row : List Read). length row) (by_position n (row_in starts sources weights)) (row_in starts sources weights n) in
    let order : get_or starts n 0 ≤ get_or starts (n + 1) 0 = rise n (n + 1) 0 (omega arith) (omega arith) in
    let end : get_or starts (n + 1) 0 ≤ length (reads_in sources weights) = rw (length-reads_in sources weights both) (within (n + 1) (omega arith)) in
    let here : length (row_in starts sources weights n) ≡ get_or starts (n + 1) 0 - get_or starts n 0 = length-slice_range (reads_in sources weights) (get_or starts n 0) (get_or starts (n + 1) 0) order end in
    let last : get_or starts (n + 1) 0 ≡ get_or starts (suc n) 0 = ap (λ k. get_or starts k 0) (add-one n) in
    ap (λ k. read_count (by_position k (row_in starts sources weights))) (sym (add-one n)) ∙ (one ∙ omega arith) ∙ last

pub read_count-rows_in : (starts sources weights : List ℕ) → AreFlat starts sources weights → read_count (rows_in starts sources weights) ≡ length sources
read_count-rows_in [] sources weights flat = flat.last
read_count-rows_in (s ∷ starts) sources weights flat =
    read_count_front (s ∷ starts) sources weights flat.first flat.never_fall flat.both (λ v inside. starts_within (s ∷ starts) sources weights flat v (omega arith)) (length (s ∷ starts) - 1) (omega arith) ∙ flat.last

-- the row of v ends where the next one begins, at a place that is there
pub row_order : (starts sources weights : List ℕ) → AreFlat starts sources weights → (v : ℕ) → v + 1 < length starts → get_or starts v 0 ≤ get_or starts (v + 1) 0
row_order starts sources weights flat v inside = starts_rise starts sources weights flat v (v + 1) (omega arith) (omega arith)

pub row_within : (starts sources weights : List ℕ) → AreFlat starts sources weights → (v : ℕ) → v + 1 < length starts → get_or starts (v + 1) 0 ≤ length sources
row_within starts sources weights flat v inside = starts_within starts sources weights flat (v + 1) (omega arith)

pub row_few : (starts sources weights : List ℕ) → AreFlat starts sources weights → (v : ℕ) → v + 1 < length starts → length (row_in starts sources weights v) ≤ MOST_READS
row_few starts sources weights flat v inside =
    let size : length (row_in starts sources weights v) ≡ get_or starts (v + 1) 0 - get_or starts v 0
    = length-slice_range (reads_in sources weights) (get_or starts v 0) (get_or starts (v + 1) 0) (row_order starts sources weights flat v inside) (omega (arith, row_within starts sources weights flat v inside, length-reads_in sources weights flat.both)) in
    omega (arith, size, row_within starts sources weights flat v inside, flat.room)
