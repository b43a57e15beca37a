-- A word without its lowest bit.
use Rattle.std.proofs.Common.{◌≡◌, ℕ, zero, suc, ◌+◌, ◌-◌, ◌/◌, ◌^◌, ◌<◌, ◌≤◌, min, Bool, true, false, List, [], ◌∷◌, ◌++◌, refl, sym, ap, ◌∙◌, inl, inr, arith, append_assoc, append-nil}
use Rattle.std.specs.Prelude.{◌==◌, ◌&&◌, not, filter, bit_and}
use Rattle.std.specs.Int.{bit_at, trailing_zeros, w64}
use Rattle.std.specs.List.{range_with_len}
use Rattle.std.proofs.lemmas.Bool.{cases_lt}
use Rattle.std.proofs.lemmas.Bool.Decides.{eqb_tells, nat_tests}
use Rattle.std.proofs.lemmas.Nat.{and_le_r}
use Rattle.std.proofs.lemmas.Nat.Bits.{bit_at_lowest, bit_at-suc, bit_at-zero, bit_at_above, bit_at_and, bit_at-trailing_zeros}
use Rattle.px_base.specs.Values.{positions_below}
use Rattle.partitioner.specs.Bits.{has_bit, HasBitsBelow}
use Rattle.partitioner.proofs.Ranges.{filters_agree}

-- ---- the number before, at the lowest bit and above

-- bit t is the lowest of the number
record IsLowest (n t : ℕ) : Type 0 where
  some : bit_at n t ≡ 1
  none : (i : ℕ) → i < t → bit_at n i ≡ 0

half : (n t : ℕ) → IsLowest n (suc t) → IsLowest (n / 2) t
half n t low = record { some = sym (bit_at-suc n t) ∙ low.some; none = λ i below. sym (bit_at-suc n i) ∙ low.none (suc i) (omega arith) }

not_zero : (n t : ℕ) → IsLowest n t → 0 < n
not_zero zero t low = absurd (omega (arith, sym (bit_at-zero t) ∙ low.some))
not_zero (suc n) t low = omega arith

before_odd : (n : ℕ) → IsLowest n 0 → (n - 1) / 2 ≡ n / 2
before_odd n low = omega (arith, bit_at_lowest n, low.some)

before_even : (n t : ℕ) → IsLowest n (suc t) → (n - 1) / 2 ≡ n / 2 - 1
before_even n t low = omega (arith, bit_at_lowest n, low.none 0 (omega arith), not_zero n (suc t) low)

before_at : (n t : ℕ) → IsLowest n t → bit_at (n - 1) t ≡ 0
before_at n zero low = omega (arith, bit_at_lowest n, low.some, bit_at_lowest (n - 1))
before_at n (suc t) low = bit_at-suc (n - 1) t ∙ ap (λ m. bit_at m t) (before_even n t low) ∙ before_at (n / 2) t (half n t low)

before_above : (n t k : ℕ) → IsLowest n t → t < k → bit_at (n - 1) k ≡ bit_at n k
before_above n t zero low above = absurd (omega arith)
before_above n zero (suc k) low above = bit_at-suc (n - 1) k ∙ ap (λ m. bit_at m k) (before_odd n low) ∙ sym (bit_at-suc n k)
before_above n (suc t) (suc k) low above =
    bit_at-suc (n - 1) k ∙ ap (λ m. bit_at m k) (before_even n t low) ∙ before_above (n / 2) t k (half n t low) (omega arith) ∙ sym (bit_at-suc n k)

-- ---- the word without its lowest bit

lowest_is : (word : ℕ) → 0 < word → word < 2 ^ 64 → IsLowest word (trailing_zeros w64 word)
lowest_is word some fits =
    let first : (trailing_zeros w64 word < 64) × (bit_at word (trailing_zeros w64 word) ≡ 1) × ((i : ℕ) → i < trailing_zeros w64 word → bit_at word i ≡ 0) = bit_at-trailing_zeros w64 word some fits in
    record { some = first.1; none = first.2 }

pub lowest_has : (word : ℕ) → 0 < word → word < 2 ^ 64 → has_bit word (trailing_zeros w64 word) ≡ true
lowest_has word some fits = ap (λ b. b == 1) (lowest_is word some fits).some

pub lowest_small : (word : ℕ) → 0 < word → word < 2 ^ 64 → trailing_zeros w64 word < 64
lowest_small word some fits =
    let first : (trailing_zeros w64 word < 64) × (bit_at word (trailing_zeros w64 word) ≡ 1) × ((i : ℕ) → i < trailing_zeros w64 word → bit_at word i ≡ 0) = bit_at-trailing_zeros w64 word some fits in
    first.0

-- a word has no bit from 64 on
pub bit_low : (word k : ℕ) → word < 2 ^ 64 → has_bit word k ≡ true → k < 64
bit_low word k fits has = elim (cases_lt k 64) [
  | inl low ↦ low
  | inr high ↦ (let clear : has_bit word k ≡ false = ap (λ b. b == 1) (bit_at_above word 64 k fits high) in absurd (cc))
]

pub below_lowest : (word k : ℕ) → 0 < word → word < 2 ^ 64 → k < trailing_zeros w64 word → has_bit word k ≡ false
below_lowest word k some fits below = ap (λ b. b == 1) ((lowest_is word some fits).none k below)

smaller_zero : (m : ℕ) → min 0 m ≡ 0
smaller_zero m = omega arith

smaller_other : (n : ℕ) → min n 0 ≡ 0
smaller_other n = omega arith

smaller_same : (n : ℕ) → min n n ≡ n
smaller_same n = omega arith

and_true : (b : Bool) → b ≡ (b && true)
and_true true = refl
and_true false = refl

and_false : (b : Bool) → false ≡ (b && false)
and_false true = refl
and_false false = refl

bit_below : (n t k : ℕ) → IsLowest n t → k < t → bit_at (bit_and n (n - 1)) k ≡ bit_at n k
bit_below n t k low below = bit_at_and n (n - 1) k ∙ ap (λ b. min b (bit_at (n - 1) k)) (low.none k below) ∙ smaller_zero (bit_at (n - 1) k) ∙ sym (low.none k below)

bit_above : (n t k : ℕ) → IsLowest n t → t < k → bit_at (bit_and n (n - 1)) k ≡ bit_at n k
bit_above n t k low above = bit_at_and n (n - 1) k ∙ ap (min (bit_at n k)) (before_above n t k low above) ∙ smaller_same (bit_at n k)

bit_same : (n t : ℕ) → IsLowest n t → bit_at (bit_and n (n - 1)) t ≡ 0
bit_same n t low = bit_at_and n (n - 1) t ∙ ap (min (bit_at n t)) (before_at n t low) ∙ smaller_other (bit_at n t)

without_at : (n t k : ℕ) → IsLowest n t → has_bit (bit_and n (n - 1)) k ≡ (has_bit n k && not (k == t))
without_at n t k low = elim (eqb_tells k t) [
  | inl (e, same) ↦ rw (e, same, bit_same n t low) (and_false (has_bit n t))
  | inr (e, apart) ↦ elim (cases_lt k t) [
    | inl below ↦ rw (e, bit_below n t k low below) (and_true (has_bit n k))
    | inr from ↦ (let above : t < k = omega arith in rw (e, bit_above n t k low above) (and_true (has_bit n k)))
  ]
]

pub without_lowest_is : (word k : ℕ) → 0 < word → word < 2 ^ 64 → has_bit (bit_and word (word - 1)) k ≡ (has_bit word k && not (k == trailing_zeros w64 word))
without_lowest_is word k some fits = without_at word (trailing_zeros w64 word) k (lowest_is word some fits)

pub without_lowest_below : (word : ℕ) → 0 < word → bit_and word (word - 1) < word
without_lowest_below word some = omega (arith, and_le_r word (word - 1))

-- ---- the bits one by one, the lowest first

apart_true : (v t : ℕ) → t < v → not (v == t) ≡ true
apart_true v t above = grind (arith, nat_tests)

same_true : (t : ℕ) → (t == t) ≡ true
same_true t = grind (arith, nat_tests)

skip : (p q : ℕ → Bool) (a : ℕ) (xs ys : List ℕ) → p a ≡ false → q a ≡ false → filter p xs ≡ ys ++ filter q xs → filter p (a ∷ xs) ≡ ys ++ filter q (a ∷ xs)
skip p q a xs ys first second rest = rw (first, second) rest

take_first : (p q : ℕ → Bool) (t : ℕ) (xs : List ℕ) → p t ≡ true → q t ≡ false → filter p xs ≡ filter q xs → filter p (t ∷ xs) ≡ t ∷ filter q (t ∷ xs)
take_first p q t xs first second rest = rw (first, second) (ap (λ ys. t ∷ ys) rest)

pub first_of : (p q : ℕ → Bool) (t a n : ℕ) → a ≤ t → t < a + n → p t ≡ true → ((k : ℕ) → a ≤ k → k < t → p k ≡ false) → ((k : ℕ) → a ≤ k → q k ≡ (p k && not (k == t))) →
    filter p (range_with_len a n) ≡ t ∷ filter q (range_with_len a n)
first_of p q t a zero from to has none is = absurd (omega arith)
first_of p q t a (suc n) from to has none is = elim (cases_lt a t) [
  | inl below ↦ (let clear : q a ≡ false = is a (omega arith) ∙ ap (λ b. b && not (a == t)) (none a (omega arith) below) in
      skip p q a (range_with_len (a + 1) n) (t ∷ []) (none a (omega arith) below) clear
      (first_of p q t (a + 1) n (omega arith) (omega arith) has (λ k low. none k (omega arith)) (λ k low. is k (omega arith))))
  | inr at ↦ (let same : a ≡ t = omega arith in
      let clear : q t ≡ false = is t (omega arith) ∙ ap (λ b. p t && not b) (same_true t) ∙ sym (and_false (p t)) in
      rw same (take_first p q t (range_with_len (t + 1) n) has clear
      (filters_agree p q (t + 1) n (λ v low high. and_true (p v) ∙ sym (is v (omega arith) ∙ ap (λ b. p v && b) (apart_true v t (omega arith))))))
      )
]

-- no bit of 0
no_bits : (a n : ℕ) → filter (has_bit 0) (range_with_len a n) ≡ []
no_bits a zero = refl
no_bits a (suc n) = let clear : has_bit 0 a ≡ false = ap (λ b. b == 1) (bit_at-zero a) in rw clear (no_bits (a + 1) n)

front_true : (a b : Bool) → (a && b) ≡ true → a ≡ true
front_true true b h = refl
front_true false b h = absurd (cc)

-- the rest is a word, and has bits of the word alone
pub record IsRestOf (word rest : ℕ) : Type 0 where
  pub fits : rest < 2 ^ 64
  pub inside : (k : ℕ) → has_bit rest k ≡ true → has_bit word k ≡ true

pub rest_of_all : (word : ℕ) → word < 2 ^ 64 → IsRestOf word word
rest_of_all word fits = record { fits = fits; inside = λ k h. h }

pub rest_of_rest : (word rest next : ℕ) → next < 2 ^ 64 → ((k : ℕ) → has_bit next k ≡ (has_bit rest k && not (k == trailing_zeros w64 rest))) → IsRestOf word rest → IsRestOf word next
rest_of_rest word rest next fits bits of =
    record { fits = fits; inside = λ k h. of.inside k (front_true (has_bit rest k) (not (k == trailing_zeros w64 rest)) (sym (bits k) ∙ h)) }

pub lowest_inside : (word rest most : ℕ) → 0 < rest → IsRestOf word rest → HasBitsBelow word most → trailing_zeros w64 rest < most
lowest_inside word rest most some of below = below (trailing_zeros w64 rest) (of.inside (trailing_zeros w64 rest) (lowest_has rest some of.fits))

-- ---- the bits that are found, and those of the rest

pub record AreFound (word rest : ℕ) (found : List ℕ) : Type 0 where
  pub of : IsRestOf word rest
  pub all : (most : ℕ) → HasBitsBelow word most → found ++ filter (has_bit rest) (positions_below most) ≡ filter (has_bit word) (positions_below most)

pub none_found : (word : ℕ) (found : List ℕ) → word < 2 ^ 64 → found ≡ [] → AreFound word word found
none_found word found fits none = record { of = rest_of_all word fits; all = λ most below. ap (λ xs. xs ++ filter (has_bit word) (positions_below most)) none }

pub next_found : (word rest next : ℕ) (found now : List ℕ) → 0 < rest → next < 2 ^ 64 → ((k : ℕ) → has_bit next k ≡ (has_bit rest k && not (k == trailing_zeros w64 rest))) →
    now ≡ found ++ trailing_zeros w64 rest ∷ [] → AreFound word rest found → AreFound word next now
next_found word rest next found now some fits bits more so_far =
    let low : ℕ = trailing_zeros w64 rest in
    let has : has_bit rest low ≡ true = lowest_has rest some so_far.of.fits in
    record {
      of = rest_of_rest word rest next fits bits so_far.of;
      all = λ most below.
          (let inside : low < most = lowest_inside word rest most some so_far.of below in
          ap (λ xs. xs ++ filter (has_bit next) (positions_below most)) more
          ∙ append_assoc found (low ∷ []) (filter (has_bit next) (positions_below most))
          ∙ ap (λ xs. found ++ xs) (sym (first_of (has_bit rest) (has_bit next) low 0 most (omega arith) (omega arith) has (λ k from before. below_lowest rest k some so_far.of.fits before) (λ k from. bits k)))
          ∙ so_far.all most below);
    }

pub all_found : (word rest most : ℕ) (found : List ℕ) → rest ≡ 0 → AreFound word rest found → HasBitsBelow word most → found ≡ filter (has_bit word) (positions_below most)
all_found word rest most found none so_far below =
    sym (ap (λ xs. found ++ xs) (ap (λ n. filter (has_bit n) (positions_below most)) none ∙ no_bits 0 most) ∙ append-nil found) ∙ so_far.all most below
