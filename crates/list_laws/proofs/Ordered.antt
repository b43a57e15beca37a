-- Lists in rising order, and such lists of a set.
use Rattle.std.proofs.Common.{◌≡◌, ℕ, suc, ◌<◌, ◌≤◌, ◌≢◌, ◌∙◌, Bool, true, false, List, [], ◌∷◌, length, get_or, nat_cmp, refl, sym, ap, arith, inl, inr}
use Rattle.std.specs.Prelude.{nat_lt, filter, sum_by}
use Rattle.std.specs.List.Sorted.{IsPermutation, IsStrictlyIncreasing, IsSorted}
use Rattle.std.proofs.lemmas.Bool.Decides.{nat_tests}
use Rattle.std.proofs.lemmas.Bool.{cases_lt}
use Rattle.std.proofs.lemmas.List.Sorted.{sum_by-IsPermutation, IsNonDecreasingBy-from_sort}
use Rattle.std.proofs.lemmas.List.Sums.{sum_by-cons}
use Rattle.std.proofs.lemmas.List.Kept.{IsStrictlyIncreasing-filter}
use Rattle.px_base.specs.Values.{positions_below, one_if}
use Rattle.px_base.proofs.Listed.{rising_apart}
use Rattle.px_base.proofs.Members.{range_rises}
use Rattle.list_laws.specs.Sets.{IsListOf}

-- what stands at a place of a rising list stands at no other
pub differ : (xs : List ℕ) → IsStrictlyIncreasing xs → (k place : ℕ) → k < length xs → place < length xs → k ≢ place → get_or xs place 0 ≢ get_or xs k 0
differ xs rising k place ink inp apart same = elim (cases_lt k place) [
  | inl low ↦ absurd (omega (arith, rising_apart xs rising k place low inp, same))
  | inr high ↦
      elim (cases_lt place k) [ inl low ↦ absurd (omega (arith, rising_apart xs rising place k low ink, same)) | inr above ↦ absurd (apart (omega arith)) ]
]

-- ---- lists that never fall

abbrev pub NeverFalls : List ℕ → Type 0
NeverFalls xs = (i j : ℕ) → i ≤ j → j < length xs → get_or xs i 0 ≤ get_or xs j 0

falls_never_after : (x : ℕ) (xs : List ℕ) → NeverFalls (x ∷ xs) → NeverFalls xs
falls_never_after x xs order i j low inside = order (suc i) (suc j) (omega arith) (omega arith)

none_lower : (bound : ℕ) (xs : List ℕ) → ((k : ℕ) → k < length xs → bound ≤ get_or xs k 0) → sum_by (λ z. one_if (nat_lt z bound)) xs ≡ 0
none_lower bound [] high = refl
none_lower bound (x ∷ xs) high =
    let here : nat_lt x bound ≡ false = (let first : bound ≤ x = high 0 (omega arith) in grind (arith, nat_tests)) in
    omega (arith, sum_by-cons (λ z. one_if (nat_lt z bound)) x xs, ap one_if here, none_lower bound xs (λ k low. high (suc k) (omega arith)))

-- the first of a list in order is no lower than the first of another whose sums are the same
first_no_lower : (x y : ℕ) (xs ys : List ℕ) → NeverFalls (x ∷ xs) → ((f : ℕ → ℕ) → sum_by f (x ∷ xs) ≡ sum_by f (y ∷ ys)) → x ≤ y
first_no_lower x y xs ys order same = by_test (nat_lt y x) refl
  where
    high : (k : ℕ) → k < length (x ∷ xs) → x ≤ get_or (x ∷ xs) k 0
    high k inside = order 0 k (omega arith) inside

    by_test : (b : Bool) → nat_lt y x ≡ b → x ≤ y
    by_test false is = grind (arith, nat_tests)
    by_test true is = absurd (omega (arith, none_lower x (x ∷ xs) high, same (λ z. one_if (nat_lt z x)), sum_by-cons (λ z. one_if (nat_lt z x)) y ys, ap one_if is))

-- two lists in order with the same sums are the same
pub in_order_same : (xs ys : List ℕ) → NeverFalls xs → NeverFalls ys → ((f : ℕ → ℕ) → sum_by f xs ≡ sum_by f ys) → xs ≡ ys
in_order_same [] [] up down same = refl
in_order_same [] (y ∷ ys) up down same = absurd (omega (arith, same (λ z. 1), sum_by-cons (λ z. 1) y ys))
in_order_same (x ∷ xs) [] up down same = absurd (omega (arith, same (λ z. 1), sum_by-cons (λ z. 1) x xs))
in_order_same (x ∷ xs) (y ∷ ys) up down same =
    let low : x ≤ y = first_no_lower x y xs ys up same in
    let high : y ≤ x = first_no_lower y x ys xs down (λ f. sym (same f)) in
    let first : x ≡ y = omega arith in
    let rest : xs ≡ ys = in_order_same xs ys (falls_never_after x xs up) (falls_never_after y ys down)
    (λ f. omega (arith, same f, sum_by-cons f x xs, sum_by-cons f y ys, ap f first)) in
    cc

-- ---- lists of a set

pub reordered : (n : ℕ) (test : ℕ → Bool) (xs ys : List ℕ) → IsPermutation xs ys → IsListOf n test xs → IsListOf n test ys
reordered n test xs ys same lists f = sum_by-IsPermutation f xs ys same ∙ lists f

pub in_order : (n : ℕ) (test : ℕ → Bool) (ys : List ℕ) → IsListOf n test ys → IsSorted nat_cmp ys → ys ≡ filter test (positions_below n)
in_order n test ys lists sorted =
    in_order_same ys (filter test (positions_below n)) (λ i j low inside. IsNonDecreasingBy-from_sort (λ x. x) ys sorted i j 0 low inside) (λ i j low inside. never_falls (filter test (positions_below n)) rising i j low inside) lists
  where
    rising : IsStrictlyIncreasing (filter test (positions_below n))
    rising = IsStrictlyIncreasing-filter test (positions_below n) (range_rises 0 n)

    never_falls : (xs : List ℕ) → IsStrictlyIncreasing xs → (i j : ℕ) → i ≤ j → j < length xs → get_or xs i 0 ≤ get_or xs j 0
    never_falls xs rises i j before inside = elim (cases_lt i j) [ inl low ↦ omega (arith, rising_apart xs rises i j low inside) | inr same ↦ (let is : i ≡ j = omega arith in rw is (omega arith)) ]
