-- Positions of a rising list by blocks of 16.
use Rattle.std.proofs.Common.{◌≡◌, ℕ, zero, suc, ◌+◌, ◌*◌, ◌/◌, ◌-◌, ◌<◌, ◌≤◌, ◌≢◌, Bool, true, false, List, [], ◌∷◌, ◌++◌, length, length-append, get_or, max, refl, ap, inl, inr, arith, eq-eqb}
use Rattle.std.specs.Prelude.{◌==◌, if◌then◌else◌, All, slice_index, Option, Some, None, IfSome, IfNone}
use Rattle.std.specs.List.Sorted.{IsStrictlyIncreasing}
use Rattle.std.proofs.lemmas.Bool.{cases_lt}
use Rattle.std.proofs.Math.ListN.{get_or-append}
use Rattle.std.proofs.Math.Seq.{get_or-append_seam}
use Rattle.std.proofs.lemmas.List.Folds.{list_any_at}
use Rattle.px_base.specs.declared.TheConstants.{MOST_VERTICES}
use Rattle.px_base.specs.Values.{is_listed, place_of}
use Rattle.px_base.proofs.Listed.{place_is, not_equal, rising_apart, rises_from_zero}
use Rattle.mirror_places.specs.Tables.{CountsBelow, IsTableOf, table_size}

-- ---- the table so far

-- Each block that has an entry has the right one, the first k positions lie in blocks that have one, and no block after the
-- last of these has.
pub record IsBegun (positions starts : List ℕ) (k : ℕ) : Type 0 where
  pub each : (b : ℕ) → b < length starts → CountsBelow positions (16 * b) (slice_index starts b)
  pub before : (j : ℕ) → j < k → slice_index positions j < 16 * length starts
  pub none : k ≡ 0 → length starts ≡ 0
  pub few : (j : ℕ) → k ≡ j + 1 → 16 * length starts ≤ slice_index positions j + 16

-- a rising list of positions below 2 ^ 22 has no more entries than that
pub few : (positions : List ℕ) → IsStrictlyIncreasing positions → All (λ p. p < MOST_VERTICES) positions → length positions ≤ MOST_VERTICES
few positions rising below = by_count (length positions) refl
  where
    by_count : (n : ℕ) → length positions ≡ n → n ≤ MOST_VERTICES
    by_count zero is = omega arith
    by_count (suc n) is =
        let last : n < length positions = omega arith in
        omega (arith, rises_from_zero positions rising n last, below n 0 last)

counts_at : (positions : List ℕ) (bound k : ℕ) → IsStrictlyIncreasing positions → k < length positions → ((j : ℕ) → j < k → slice_index positions j < bound) → bound ≤ slice_index positions k → CountsBelow positions bound k
counts_at positions bound k rising inside before here = record {
  within = omega arith;
  before = before;
  from = λ j high below. elim (cases_lt k j) [
    | inl more ↦ omega (arith, rising_apart positions rising k j more below, here)
    | inr same ↦ (let is : j ≡ k = omega arith in rw is here)
  ];
}

-- one position more
pub begun_more : (positions old new : List ℕ) (k block : ℕ) → IsStrictlyIncreasing positions → k < length positions → IsBegun positions old k →
    16 * block ≤ slice_index positions k → slice_index positions k < 16 * (block + 1) → length new ≡ max (length old) (block + 1) →
    ((b : ℕ) → b < length old → slice_index new b ≡ slice_index old b) → ((b : ℕ) → length old ≤ b → b < length new → slice_index new b ≡ k) →
    IsBegun positions new (k + 1)
begun_more positions old new k block rising inside begun low high count kept added = record {
  each = λ b below. elim (cases_lt b (length old)) [
    | inl there ↦ rw (kept b there) (begun.each b there)
    | inr past ↦ rw (added b past below) (counts_at positions (16 * b) k rising inside (λ j first. omega (arith, begun.before j first)) (omega arith))
  ];
  before = λ j first. elim (cases_lt j k) [
    | inl less ↦ omega (arith, begun.before j less)
    | inr same ↦ (let is : j ≡ k = omega arith in rw is (omega arith))
  ];
  none = λ e. absurd (omega arith);
  few = λ j e. (let is : j ≡ k = omega arith in rw is (elim (cases_lt 0 k) [
    | inl some ↦ omega (arith, begun.few (k - 1) (omega arith), rising_apart positions rising (k - 1) k (omega arith) inside)
    | inr first ↦ (let at_first : k ≡ 0 = omega arith in omega (arith, begun.none at_first))
  ]));
}

-- the table with its last entry
pub table_made : (positions starts : List ℕ) → IsBegun positions starts (length positions) → IsTableOf positions (starts ++ length positions ∷ [])
table_made positions starts begun =
    let count : length (starts ++ length positions ∷ []) ≡ length starts + 1 = length-append starts (length positions ∷ []) in
    let seam : length (starts ++ length positions ∷ []) - 1 ≡ length starts = omega (arith, count) in
    let at_end : slice_index (starts ++ length positions ∷ []) (length starts) ≡ length positions = get_or-append_seam starts (length positions) [] 0 in
    record {
      some = omega (arith, count);
      each = λ b below. elim (cases_lt b (length starts)) [
        | inl there ↦ rw (get_or-append starts (length positions ∷ []) 0 b there) (begun.each b there)
        | inr past ↦ (let is : b ≡ length starts = omega (arith, count, below) in rw (is, at_end) (record { within = omega arith; before = begun.before; from = λ k high low. absurd (omega arith) }))
      ];
      last = rw (seam, at_end) refl;
    }

-- no more entries than have to be
pub size_made : (positions starts : List ℕ) → IsBegun positions starts (length positions) → length (starts ++ length positions ∷ []) ≡ table_size positions
size_made [] starts begun = omega (arith, length-append starts (0 ∷ []), begun.none refl)
size_made (p ∷ positions) starts begun =
    let all : List ℕ = p ∷ positions in
    let last : ℕ = length all - 1 in
    let some : (length all == 0) ≡ false = not_equal (length all) 0 (λ e. absurd (omega (arith, e))) in
    let is : table_size all ≡ slice_index all last / 16 + 2 = ap (λ (none : Bool). if none then 1 else slice_index all last / 16 + 2) some in
    omega (arith, is, length-append starts (length all ∷ []), begun.few last (omega arith), begun.before last (omega arith))

-- ---- what is found

-- a position that stands nowhere
none_there : (xs : List ℕ) (u : ℕ) → ((k : ℕ) → k < length xs → get_or xs k 0 ≢ u) → is_listed xs u ≡ false
none_there [] u none = refl
none_there (x ∷ xs) u none =
    let here : (x == u) ≡ false = not_equal x u (none 0 (omega arith)) in
    rw here (none_there xs u (λ k below. none (suc k) (omega arith)))

-- what stands in its block
pub found : (positions table : List ℕ) (u block at : ℕ) → IsTableOf positions table → 16 * block ≤ u → block < length table → at < length positions → slice_index positions at ≡ u →
    ((k : ℕ) → slice_index table block ≤ k → k < at → slice_index positions k ≢ u) → (at ≡ place_of positions u) × (at < length positions) × (is_listed positions u ≡ true)
found positions table u block at made low known inside here first = (
  place_is positions u at inside (λ k below. not_equal (slice_index positions k) u (elim (cases_lt k (slice_index table block)) [
    | inl less ↦ (λ e. absurd (omega (arith, (made.each block known).before k less, e)))
    | inr more ↦ first k more below
  ])) here,
  inside,
  list_any_at (λ item. item == u) positions at 0 inside (eq-eqb (slice_index positions at) u here),
)

-- what doesn't stand in its block stands nowhere
pub absent : (positions table : List ℕ) (u block : ℕ) → IsTableOf positions table → 16 * block ≤ u → u < 16 * (block + 1) → block + 1 < length table →
    ((k : ℕ) → slice_index table block ≤ k → k < slice_index table (block + 1) → slice_index positions k ≢ u) → is_listed positions u ≡ false
absent positions table u block made low high known none = none_there positions u (λ k below. elim (cases_lt k (slice_index table block)) [
  | inl less ↦ (λ e. absurd (omega (arith, (made.each block (omega arith)).before k less, e)))
  | inr more ↦
      elim (cases_lt k (slice_index table (block + 1))) [ inl there ↦ none k more there | inr past ↦ (λ e. absurd (omega (arith, (made.each (block + 1) known).from k past below, e))) ]
])

-- nothing stands past the last block
pub beyond : (positions table : List ℕ) (u block : ℕ) → IsTableOf positions table → 16 * block ≤ u → length table ≤ block + 1 → is_listed positions u ≡ false
beyond positions table u block made low past =
    none_there positions u (λ k below e. absurd (omega (arith, (made.each (length table - 1) (omega (arith, made.some))).before k (omega (arith, made.last, below)), e, made.some)))

-- the same of what a search of the block came to
pub found_if : (positions table : List ℕ) (u block from to : ℕ) (r : Option ℕ) → IsTableOf positions table → 16 * block ≤ u → block + 1 < length table →
    from ≡ slice_index table block → to ≡ slice_index table (block + 1) → IfSome r (λ at. (at < to) × (slice_index positions at ≡ u)) →
    IfSome r (λ at. (k : ℕ) → from ≤ k → k < at → slice_index positions k ≢ u) → IfSome r (λ at. (at ≡ place_of positions u) × (at < length positions) × (is_listed positions u ≡ true))
found_if positions table u block from to None made low known from_is to_is here first = tt
found_if positions table u block from to (Some at) made low known from_is to_is here first =
    found positions table u block at made low (omega arith) (omega (arith, here.0, (made.each (block + 1) known).within)) here.1 (λ k high below. first k (omega arith) below)

pub absent_if : (positions table : List ℕ) (u block from to : ℕ) (r : Option ℕ) → IsTableOf positions table → 16 * block ≤ u → u < 16 * (block + 1) → block + 1 < length table →
    from ≡ slice_index table block → to ≡ slice_index table (block + 1) → IfNone r ((k : ℕ) → from ≤ k → k < to → slice_index positions k ≢ u) → IfNone r (is_listed positions u ≡ false)
absent_if positions table u block from to None made low high known from_is to_is none = absent positions table u block made low high known (λ k above below. none k (omega arith) (omega arith))
absent_if positions table u block from to (Some at) made low high known from_is to_is none = tt
