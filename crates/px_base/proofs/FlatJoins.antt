-- Rows in flat lists behind other rows in flat lists.
use Rattle.std.proofs.Common.{◌≡◌, ℕ, zero, suc, ◌+◌, ◌-◌, ◌<◌, ◌≤◌, List, [], ◌∷◌, ◌++◌, length, map, get_or, take, drop, refl, ap, sym, ◌∙◌, arith, inl, inr}
use Rattle.std.specs.Prelude.{slice_range}
use Rattle.std.proofs.lemmas.Bool.{cases_lt}
use Rattle.std.proofs.lemmas.List.{length-append, length-map, length-drop, get_or-map, get_or_append_left, get_or-append_right, drop-append-le, take-append-le, same_lists}
use Rattle.std.proofs.lemmas.List.Sorted.{IsNonDecreasingBy-from_default}
use Rattle.px_base.specs.declared.TheConstants.{MOST_READS}
use Rattle.px_base.specs.FlatRows.{AreFlat, reads_in, row_in, rows_in}
use Rattle.px_base.proofs.FlatReads.{length-reads_in, reads_in-append}
use Rattle.px_base.proofs.FlatRanges.{length-rows_in, starts_rise, starts_within}
use Rattle.px_base.proofs.Positions.{at_position}

-- a range of the front of a list, and one of its end
pub range_front : {X : Type 0} (xs ys : List X) (i j : ℕ) → i ≤ j → j ≤ length xs → slice_range (xs ++ ys) i j ≡ slice_range xs i j
range_front xs ys i j order within =
    ap (take (j - i)) (drop-append-le i xs ys (omega arith)) ∙ take-append-le (j - i) (drop i xs) ys (omega (arith, length-drop i xs))

pub range_behind : {X : Type 0} (xs ys : List X) (n i j : ℕ) → length xs ≡ n → slice_range (xs ++ ys) (n + i) (n + j) ≡ slice_range ys i j
range_behind [] ys n i j size =
    let none : n ≡ 0 = omega arith in
    let a : n + i ≡ i = omega arith in
    let b : n + j ≡ j = omega arith in
    λ k. slice_range ys (a k) (b k)
range_behind (x ∷ xs) ys n i j size =
    let a : n + i ≡ suc (length xs + i) = omega arith in
    let b : n + j ≡ suc (length xs + j) = omega arith in
    let c : suc (length xs + j) - suc (length xs + i) ≡ length xs + j - (length xs + i) = omega arith in
    (λ k. slice_range (x ∷ (xs ++ ys)) (a k) (b k)) ∙ ap (λ m. take m (drop (length xs + i) (xs ++ ys))) c ∙ range_behind xs ys (length xs) i j refl

-- the starts of the rows behind: those but the first, counted from where the reads before end
abbrev pub behind : ℕ → List ℕ → List ℕ
behind base starts = map (λ s. base + s) (drop 1 starts)

module _ (starts sources weights : List ℕ) (flat : AreFlat starts sources weights) (some : 0 < length starts)
    (more others also : List ℕ) (back : AreFlat more others also) (another : 0 < length more) (few : length sources + length others ≤ MOST_READS) where
  abbrev base : ℕ
  base = length sources

  abbrev joined : List ℕ
  joined = starts ++ behind base more

  length-behind : length (behind base more) ≡ length more - 1
  length-behind = length-map (drop 1 more) (λ s. base + s) ∙ length-drop 1 more

  pub length-joined : length joined ≡ length starts + (length more - 1)
  length-joined = length-append starts (behind base more) ∙ omega (arith, length-behind)

  front_at : (k : ℕ) → k < length starts → get_or joined k 0 ≡ get_or starts k 0
  front_at k inside = get_or_append_left starts (behind base more) 0 k inside

  -- the last start before is the first one of what comes
  behind_at : (j : ℕ) → j < length more → get_or joined (length starts - 1 + j) 0 ≡ base + get_or more j 0
  behind_at zero inside =
      let n : length starts - 1 + 0 ≡ length starts - 1 = omega arith in
      ap (λ k. get_or joined k 0) n ∙ front_at (length starts - 1) (omega arith) ∙ omega (arith, flat.last, back.first)
  behind_at (suc j) inside =
      let n : length starts - 1 + suc j ≡ length starts + j = omega arith in
      let i : length starts + j - length starts ≡ j = omega arith in
      let there : j < length (drop 1 more) = omega (arith, length-drop 1 more) in
      ap (λ k. get_or joined k 0) n
      ∙ get_or-append_right starts (behind base more) (length starts) (length starts + j) 0 refl (omega arith)
      ∙ ap (λ k. get_or (behind base more) k 0) i
      ∙ get_or-map (λ s. base + s) (drop 1 more) j 0 0 there
      ∙ ap (λ s. base + s) (tail_at more j another)
    where
      tail_at : (xs : List ℕ) (j : ℕ) → 0 < length xs → get_or (drop 1 xs) j 0 ≡ get_or xs (suc j) 0
      tail_at [] j h = absurd (omega arith)
      tail_at (x ∷ xs) j h = refl

  rise_within : (i j : ℕ) → i ≤ j → j < length joined → get_or joined i 0 ≤ get_or joined j 0
  rise_within i j order inside = elim (cases_lt j (length starts)) [
    | inl low ↦ omega (arith, front_at i (omega arith), front_at j low, starts_rise starts sources weights flat i j order (omega arith))
    | inr high ↦
        (let b = behind_at (j - (length starts - 1)) (omega (arith, length-joined)) in
        let n : length starts - 1 + (j - (length starts - 1)) ≡ j = omega arith in
        let jth : get_or joined j 0 ≡ base + get_or more (j - (length starts - 1)) 0 = ap (λ k. get_or joined k 0) (sym n) ∙ b in
        elim (cases_lt i (length starts)) [
          | inl below ↦ omega (arith, jth, front_at i below, starts_within starts sources weights flat i (omega arith))
          | inr above ↦
              (let a = behind_at (i - (length starts - 1)) (omega (arith, length-joined)) in
              let m : length starts - 1 + (i - (length starts - 1)) ≡ i = omega arith in
              let ith : get_or joined i 0 ≡ base + get_or more (i - (length starts - 1)) 0 = ap (λ k. get_or joined k 0) (sym m) ∙ a in
              omega (arith, ith, jth, starts_rise more others also back (i - (length starts - 1)) (j - (length starts - 1)) (omega arith) (omega (arith, length-joined))))
        ])
  ]

  pub joined_flat : AreFlat (starts ++ behind (length sources) more) (sources ++ others) (weights ++ also)
  joined_flat = record {
    first = front_at 0 some ∙ flat.first;
    never_fall = IsNonDecreasingBy-from_default (λ x. x) joined 0 rise_within;
    last =
        let n : length joined - 1 ≡ length starts - 1 + (length more - 1) = omega (arith, length-joined) in
        ap (λ k. get_or joined k 0) n ∙ behind_at (length more - 1) (omega arith) ∙ omega (arith, back.last, length-append sources others);
    both = omega (arith, length-append sources others, length-append weights also, flat.both, back.both);
    room = omega (arith, length-append sources others);
  }

  all_reads : reads_in (sources ++ others) (weights ++ also) ≡ reads_in sources weights ++ reads_in others also
  all_reads = reads_in-append sources weights others also flat.both

  count_front : length (reads_in sources weights) ≡ base
  count_front = length-reads_in sources weights flat.both

  row_front : (v : ℕ) → v < length starts - 1 → row_in joined (sources ++ others) (weights ++ also) v ≡ row_in starts sources weights v
  row_front v below =
      let a = front_at v (omega arith) in
      let b = front_at (v + 1) (omega arith) in
      (λ i. slice_range (all_reads i) (a i) (b i))
      ∙ range_front (reads_in sources weights) (reads_in others also) (get_or starts v 0) (get_or starts (v + 1) 0)
      (starts_rise starts sources weights flat v (v + 1) (omega arith) (omega arith))
      (omega (arith, count_front, starts_within starts sources weights flat (v + 1) (omega arith)))

  row_behind : (j : ℕ) → j < length more - 1 → row_in joined (sources ++ others) (weights ++ also) (length starts - 1 + j) ≡ row_in more others also j
  row_behind j below =
      let n : length starts - 1 + j + 1 ≡ length starts - 1 + (j + 1) = omega arith in
      let a = behind_at j (omega arith) in
      let b = ap (λ k. get_or joined k 0) n ∙ behind_at (j + 1) (omega arith) in
      (λ i. slice_range (all_reads i) (a i) (b i))
      ∙ range_behind (reads_in sources weights) (reads_in others also) base (get_or more j 0) (get_or more (j + 1) 0) count_front

  pub rows_joined : rows_in (starts ++ behind (length sources) more) (sources ++ others) (weights ++ also) ≡ rows_in starts sources weights ++ rows_in more others also
  rows_joined =
      let left : length (rows_in joined (sources ++ others) (weights ++ also)) ≡ length starts - 1 + (length more - 1) = length-rows_in joined (sources ++ others) (weights ++ also) ∙ omega (arith, length-joined) in
      let one = length-rows_in starts sources weights in
      let two = length-rows_in more others also in
      let right : length (rows_in starts sources weights ++ rows_in more others also) ≡ length starts - 1 + (length more - 1) = length-append (rows_in starts sources weights) (rows_in more others also) ∙ omega (arith, one, two) in
      same_lists (rows_in joined (sources ++ others) (weights ++ also)) (rows_in starts sources weights ++ rows_in more others also) (omega (arith, left, right))
      (λ v d inside.
      let here : v < length starts - 1 + (length more - 1) = omega (arith, left) in
      let is : get_or (rows_in joined (sources ++ others) (weights ++ also)) v d ≡ row_in joined (sources ++ others) (weights ++ also) v
      = at_position (length joined - 1) (row_in joined (sources ++ others) (weights ++ also)) v d (omega (arith, length-joined)) in
      elim (cases_lt v (length starts - 1)) [
        | inl low ↦ is ∙ row_front v low ∙ sym (at_position (length starts - 1) (row_in starts sources weights) v d low)
            ∙ sym (get_or_append_left (rows_in starts sources weights) (rows_in more others also) d v (omega (arith, one)))
        | inr high ↦
            (let j : length starts - 1 + (v - (length starts - 1)) ≡ v = omega arith in
            is ∙ ap (row_in joined (sources ++ others) (weights ++ also)) (sym j) ∙ row_behind (v - (length starts - 1)) (omega arith)
            ∙ sym (at_position (length more - 1) (row_in more others also) (v - (length starts - 1)) d (omega arith))
            ∙ sym (get_or-append_right (rows_in starts sources weights) (rows_in more others also) (length starts - 1) v d one high))
      ])
