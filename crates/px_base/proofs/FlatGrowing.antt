-- Rows that are made one after another in flat lists.
use Rattle.std.proofs.Common.{◌≡◌, ℕ, ◌+◌, ◌-◌, ◌<◌, ◌≤◌, List, [], ◌∷◌, ◌++◌, length, get_or, take, drop, refl, ap, sym, ◌∙◌, arith}
use Rattle.std.specs.Prelude.{slice_range}
use Rattle.std.proofs.lemmas.List.{get_or_append_left, get_or_push, get_or_default, length_push, drop-append-le, take-append-le, take_all, drop_all, length-drop, same_lists}
use Rattle.std.proofs.lemmas.List.Sorted.{IsNonDecreasingBy-push}
use Rattle.px_base.specs.declared.TheConstants.{MOST_READS}
use Rattle.px_base.specs.declared.graph.Read.{Read}
use Rattle.px_base.specs.Values.{by_position}
use Rattle.px_base.specs.Graphs.{read_count}
use Rattle.px_base.specs.FlatRows.{AreFlat, AreOpen, open_in, read_with, reads_in, row_in, rows_in}
use Rattle.px_base.proofs.FlatReads.{length-reads_in, reads_in-append}
use Rattle.px_base.proofs.FlatRanges.{read_count_front}
use Rattle.px_base.proofs.Positions.{at_position, length_by_position, by_position_more}

-- two functions that agree below n make the same list of n
pub same_positions : {X : Type 0} (n : ℕ) (f g : ℕ → X) → ((v : ℕ) → v < n → f v ≡ g v) → by_position n f ≡ by_position n g
same_positions n f g each =
    same_lists (by_position n f) (by_position n g) (length_by_position n f ∙ sym (length_by_position n g))
    (λ k d below.
    let inside : k < n = omega (arith, length_by_position n f) in
    at_position n f k d inside ∙ each k inside ∙ sym (at_position n g k d inside))

module _ (starts sources weights : List ℕ) (are : AreOpen starts sources weights) where
  abbrev open_start : ℕ
  open_start = get_or starts (length starts - 1) 0

  start_within : (v : ℕ) → v < length starts → get_or starts v 0 ≤ length sources
  start_within v inside = omega (arith, are.never_fall v (length starts - 1) 0 (omega arith) (omega arith), are.last)

  -- the rows that are done and the open one have all reads
  pub reads_so_far : read_count (open_in starts sources weights).done + length (open_in starts sources weights).open_row ≡ length sources
  reads_so_far =
      let done : read_count (rows_in starts sources weights) ≡ open_start = read_count_front starts sources weights are.first are.never_fall are.both start_within (length starts - 1) (omega (arith, are.some)) in
      omega (arith, done, length-drop open_start (reads_in sources weights), length-reads_in sources weights are.both, are.last)

  -- a read more belongs to the open row
  pub read_more : (s w : ℕ) → length sources < MOST_READS → AreOpen starts (sources ++ s ∷ []) (weights ++ w ∷ [])
  read_more s w few = record {
    some = are.some;
    first = are.first;
    never_fall = are.never_fall;
    last = omega (arith, are.last, length_push sources s);
    both = omega (arith, length_push sources s, length_push weights w, are.both);
    room = omega (arith, length_push sources s);
  }

  -- what lies before the end of the reads stays
  range_stays : (more : List Read) (i j : ℕ) → i ≤ j → j ≤ length sources → slice_range (reads_in sources weights ++ more) i j ≡ slice_range (reads_in sources weights) i j
  range_stays more i j order within =
      let all : length (reads_in sources weights) ≡ length sources = length-reads_in sources weights are.both in
      let cut : drop i (reads_in sources weights ++ more) ≡ drop i (reads_in sources weights) ++ more = drop-append-le i (reads_in sources weights) more (omega arith) in
      ap (take (j - i)) cut ∙ take-append-le (j - i) (drop i (reads_in sources weights)) more (omega (arith, length-drop i (reads_in sources weights)))

  pub opened_more : (s w : ℕ) → open_in starts (sources ++ s ∷ []) (weights ++ w ∷ [])
      ≡ record { done = (open_in starts sources weights).done; open_row = (open_in starts sources weights).open_row ++ read_with s w ∷ [] }
  opened_more s w =
      let grown : reads_in (sources ++ s ∷ []) (weights ++ w ∷ []) ≡ reads_in sources weights ++ read_with s w ∷ [] = reads_in-append sources weights (s ∷ []) (w ∷ []) are.both in
      let all : length (reads_in sources weights) ≡ length sources = length-reads_in sources weights are.both in
      let rows : rows_in starts (sources ++ s ∷ []) (weights ++ w ∷ []) ≡ rows_in starts sources weights =
      same_positions (length starts - 1) (row_in starts (sources ++ s ∷ []) (weights ++ w ∷ [])) (row_in starts sources weights)
      (λ v below.
      ap (λ reads. slice_range reads (get_or starts v 0) (get_or starts (v + 1) 0)) grown
      ∙ range_stays (read_with s w ∷ []) (get_or starts v 0) (get_or starts (v + 1) 0) (are.never_fall v (v + 1) 0 (omega arith) (omega arith)) (start_within (v + 1) (omega arith))) in
      let row : drop open_start (reads_in (sources ++ s ∷ []) (weights ++ w ∷ [])) ≡ drop open_start (reads_in sources weights) ++ read_with s w ∷ [] =
      ap (drop open_start) grown ∙ drop-append-le open_start (reads_in sources weights) (read_with s w ∷ []) (omega (arith, are.last)) in
      λ i. record { done = rows i; open_row = row i }

  -- the open row is done, and the next one begins after it
  abbrev closed : List ℕ
  closed = starts ++ length sources ∷ []

  closed_front : (v : ℕ) → v < length starts → get_or closed v 0 ≡ get_or starts v 0
  closed_front v inside = get_or_append_left starts (length sources ∷ []) 0 v inside

  closed_end : get_or closed (length starts) 0 ≡ length sources
  closed_end = get_or_push starts (length sources) 0 (length starts) refl

  pub row_done : AreOpen (starts ++ length sources ∷ []) sources weights
  row_done = record {
    some = omega (arith, length_push starts (length sources));
    first = closed_front 0 are.some ∙ are.first;
    never_fall = IsNonDecreasingBy-push (λ x. x) starts (length sources) are.never_fall (λ d some. let same = get_or_default starts (length starts - 1) d 0 (omega arith) in omega (arith, same, are.last));
    last = let n : length closed - 1 ≡ length starts = omega (arith, length_push starts (length sources)) in omega (arith, ap (λ k. get_or closed k 0) n, closed_end);
    both = are.both;
    room = are.room;
  }

  pub opened_next : open_in (starts ++ length sources ∷ []) sources weights
      ≡ record { done = (open_in starts sources weights).done ++ (open_in starts sources weights).open_row ∷ []; open_row = [] }
  opened_next =
      let all : length (reads_in sources weights) ≡ length sources = length-reads_in sources weights are.both in
      let n : length closed - 1 ≡ length starts = omega (arith, length_push starts (length sources)) in
      let last : length starts ≡ length starts - 1 + 1 = omega (arith, are.some) in
      let front : by_position (length starts - 1) (row_in closed sources weights) ≡ by_position (length starts - 1) (row_in starts sources weights) =
      same_positions (length starts - 1) (row_in closed sources weights) (row_in starts sources weights)
      (λ v below. (let a = closed_front v (omega arith) in let b = closed_front (v + 1) (omega arith) in λ i. slice_range (reads_in sources weights) (a i) (b i))) in
      let rest : row_in closed sources weights (length starts - 1) ≡ drop open_start (reads_in sources weights) =
      (let a : get_or closed (length starts - 1) 0 ≡ open_start = closed_front (length starts - 1) (omega (arith, are.some)) in
      let b : get_or closed (length starts - 1 + 1) 0 ≡ length sources = ap (λ k. get_or closed k 0) (sym last) ∙ closed_end in
      (λ i. slice_range (reads_in sources weights) (a i) (b i)) ∙ take_all (length sources - open_start) (drop open_start (reads_in sources weights)) (omega (arith, length-drop open_start (reads_in sources weights)))) in
      let rows : rows_in closed sources weights ≡ rows_in starts sources weights ++ drop open_start (reads_in sources weights) ∷ [] =
      ap (λ k. by_position k (row_in closed sources weights)) (n ∙ last)
      ∙ by_position_more (length starts - 1) (row_in closed sources weights)
      ∙ (λ i. front i ++ rest i ∷ []) in
      let row : drop (get_or closed (length closed - 1) 0) (reads_in sources weights) ≡ [] =
      drop_all (get_or closed (length closed - 1) 0) (reads_in sources weights) (omega (arith, ap (λ k. get_or closed k 0) n, closed_end)) in
      λ i. record { done = rows i; open_row = row i }

  -- where no row is open the lists are those of rows
  pub finished : (open_in starts sources weights).open_row ≡ [] → AreFlat starts sources weights
  finished none = record {
    first = are.first;
    never_fall = are.never_fall;
    last = omega (arith, are.last, ap length none, length-drop open_start (reads_in sources weights), length-reads_in sources weights are.both);
    both = are.both;
    room = are.room;
  }
