-- Some of the rows that lie one after another in flat lists.
use Rattle.std.proofs.Common.{◌≡◌, ℕ, ◌+◌, ◌-◌, ◌<◌, ◌≤◌, List, length, map, get_or, ap, sym, ◌∙◌, arith}
use Rattle.std.specs.Prelude.{slice_range}
use Rattle.std.proofs.lemmas.List.{length-map, get_or-map, same_lists}
use Rattle.std.proofs.lemmas.List.Sorted.{IsNonDecreasingBy-from_default}
use Rattle.std.proofs.lemmas.List.Edits.{get_or-between}
use Rattle.px_base.specs.FlatRows.{AreFlat, reads_in, row_in, rows_in}
use Rattle.px_base.proofs.FlatReads.{length-reads_in, slice_range-reads_in}
use Rattle.px_base.proofs.FlatRanges.{length-rows_in, starts_rise, starts_within, length-slice_range}
use Rattle.px_base.proofs.Positions.{at_position}

-- a range of a range
pub slice_range-slice_range : {X : Type 0} (xs : List X) (b e i j : ℕ) → b ≤ i → i ≤ j → j ≤ e → e ≤ length xs → slice_range (slice_range xs b e) (i - b) (j - b) ≡ slice_range xs i j
slice_range-slice_range xs b e i j low order high within =
    let whole : length (slice_range xs b e) ≡ e - b = length-slice_range xs b e (omega arith) within in
    let left : length (slice_range (slice_range xs b e) (i - b) (j - b)) ≡ j - b - (i - b) = length-slice_range (slice_range xs b e) (i - b) (j - b) (omega arith) (omega arith) in
    let right : length (slice_range xs i j) ≡ j - i = length-slice_range xs i j order (omega arith) in
    same_lists (slice_range (slice_range xs b e) (i - b) (j - b)) (slice_range xs i j) (omega arith)
    (λ k d inside.
    let one : get_or (slice_range (slice_range xs b e) (i - b) (j - b)) k d ≡ get_or (slice_range xs b e) (i - b + k) d = get_or-between (slice_range xs b e) (i - b) (j - b) k d (omega arith) in
    let two : get_or (slice_range xs b e) (i - b + k) d ≡ get_or xs (b + (i - b + k)) d = get_or-between xs b e (i - b + k) d (omega arith) in
    let three : get_or (slice_range xs i j) k d ≡ get_or xs (i + k) d = get_or-between xs i j k d (omega arith) in
    let same : b + (i - b + k) ≡ i + k = omega arith in
    one ∙ two ∙ ap (λ at. get_or xs at d) same ∙ sym three)

-- the starts from low up to high, counted from the first of them
abbrev pub shifted : List ℕ → ℕ → ℕ → List ℕ
shifted starts low high = map (λ s. s - get_or starts low 0) (slice_range starts low (high + 1))

module _ (starts sources weights : List ℕ) (low high : ℕ) (flat : AreFlat starts sources weights) (order : low ≤ high) (inside : high + 1 ≤ length starts) where
  pub length-shifted : length (shifted starts low high) ≡ high + 1 - low
  length-shifted = length-map (slice_range starts low (high + 1)) (λ s. s - get_or starts low 0) ∙ length-slice_range starts low (high + 1) (omega arith) inside

  pub shifted_at : (k : ℕ) → low + k ≤ high → get_or (shifted starts low high) k 0 ≡ get_or starts (low + k) 0 - get_or starts low 0
  shifted_at k below =
      let there : k < length (slice_range starts low (high + 1)) = omega (arith, length-slice_range starts low (high + 1) (omega arith) inside) in
      get_or-map (λ s. s - get_or starts low 0) (slice_range starts low (high + 1)) k 0 0 there
      ∙ ap (λ s. s - get_or starts low 0) (get_or-between starts low (high + 1) k 0 (omega arith))

  rise : (i j : ℕ) → i ≤ j → low + j ≤ high → get_or starts (low + i) 0 ≤ get_or starts (low + j) 0
  rise i j before below = starts_rise starts sources weights flat (low + i) (low + j) (omega arith) (omega arith)

  -- the reads from the first of these rows up to the last
  abbrev own : List ℕ → List ℕ
  own xs = slice_range xs (get_or starts low 0) (get_or starts high 0)

  ends_within : get_or starts high 0 ≤ length sources
  ends_within = starts_within starts sources weights flat high inside

  starts_order : get_or starts low 0 ≤ get_or starts high 0
  starts_order = starts_rise starts sources weights flat low high order inside

  pub are_flat : AreFlat (shifted starts low high) (own sources) (own weights)
  are_flat = record {
    first =
        let same : get_or starts (low + 0) 0 ≡ get_or starts low 0 = (let n : low + 0 ≡ low = omega arith in ap (λ k. get_or starts k 0) n) in
        shifted_at 0 (omega arith) ∙ omega (arith, same);
    never_fall = IsNonDecreasingBy-from_default (λ x. x) (shifted starts low high) 0
        (λ i j before below.
        let here : low + j ≤ high = omega (arith, length-shifted) in
        omega (arith, shifted_at i (omega arith), shifted_at j here, rise i j before here));
    last =
        let n : length (shifted starts low high) - 1 ≡ high - low = omega (arith, length-shifted) in
        let at : low + (high - low) ≡ high = omega arith in
        ap (λ k. get_or (shifted starts low high) k 0) n ∙ shifted_at (high - low) (omega arith)
        ∙ ap (λ k. get_or starts k 0 - get_or starts low 0) at ∙ sym (length-slice_range sources (get_or starts low 0) (get_or starts high 0) starts_order ends_within);
    both =
        length-slice_range weights (get_or starts low 0) (get_or starts high 0) starts_order (omega (arith, ends_within, flat.both))
        ∙ sym (length-slice_range sources (get_or starts low 0) (get_or starts high 0) starts_order ends_within);
    room = omega (arith, length-slice_range sources (get_or starts low 0) (get_or starts high 0) starts_order ends_within, ends_within, flat.room);
  }

  row_is : (k : ℕ) → low + k < high → row_in (shifted starts low high) (own sources) (own weights) k ≡ row_in starts sources weights (low + k)
  row_is k below =
      let reads : length (reads_in sources weights) ≡ length sources = length-reads_in sources weights flat.both in
      let next : low + (k + 1) ≡ low + k + 1 = omega arith in
      let zero_up : get_or starts (low + 0) 0 ≡ get_or starts low 0 = (let n : low + 0 ≡ low = omega arith in ap (λ k. get_or starts k 0) n) in
      let last_up : get_or starts (low + (high - low)) 0 ≡ get_or starts high 0 = (let n : low + (high - low) ≡ high = omega arith in ap (λ k. get_or starts k 0) n) in
      let from : get_or (shifted starts low high) k 0 ≡ get_or starts (low + k) 0 - get_or starts low 0 = shifted_at k (omega arith) in
      let to : get_or (shifted starts low high) (k + 1) 0 ≡ get_or starts (low + k + 1) 0 - get_or starts low 0 = shifted_at (k + 1) (omega arith) ∙ ap (λ n. get_or starts n 0 - get_or starts low 0) next in
      rw (from, to, ← slice_range-reads_in (get_or starts low 0) (get_or starts high 0) sources weights)
      (slice_range-slice_range (reads_in sources weights) (get_or starts low 0) (get_or starts high 0) (get_or starts (low + k) 0) (get_or starts (low + k + 1) 0)
      (omega (arith, zero_up, rise 0 k (omega arith) (omega arith)))
      (starts_rise starts sources weights flat (low + k) (low + k + 1) (omega arith) (omega arith))
      (starts_rise starts sources weights flat (low + k + 1) high (omega arith) inside)
      (omega (arith, reads, ends_within)))

  pub rows_are : rows_in (shifted starts low high) (own sources) (own weights) ≡ slice_range (rows_in starts sources weights) low high
  rows_are =
      let all : length (rows_in starts sources weights) ≡ length starts - 1 = length-rows_in starts sources weights in
      let left : length (rows_in (shifted starts low high) (own sources) (own weights)) ≡ high - low = length-rows_in (shifted starts low high) (own sources) (own weights) ∙ omega (arith, length-shifted) in
      let right : length (slice_range (rows_in starts sources weights) low high) ≡ high - low = length-slice_range (rows_in starts sources weights) low high order (omega arith) in
      same_lists (rows_in (shifted starts low high) (own sources) (own weights)) (slice_range (rows_in starts sources weights) low high) (omega arith)
      (λ k d below.
      at_position (length (shifted starts low high) - 1) (row_in (shifted starts low high) (own sources) (own weights)) k d (omega (arith, length-shifted, left))
      ∙ row_is k (omega arith)
      ∙ sym (at_position (length starts - 1) (row_in starts sources weights) (low + k) d (omega arith))
      ∙ sym (get_or-between (rows_in starts sources weights) low high k d (omega arith)))
