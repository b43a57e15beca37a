-- Where a position stands in a rising list.
use Rattle.std.proofs.Common.{◌≡◌, ℕ, zero, suc, add-one, ◌<◌, ◌≤◌, ◌≢◌, true, false, List, [], ◌∷◌, length, get_or, sym, refl, arith, inl, inr, eq-eqb, nat_cmp}
use Rattle.std.specs.Prelude.{◌==◌, Result, Ok, Err, MatchResult}
use Rattle.std.specs.List.Sorted.{IsStrictlyIncreasing, IsBinarySearchResult}
use Rattle.std.proofs.lemmas.Bool.Decides.{eqb_tells}
use Rattle.std.proofs.lemmas.Bool.{cases_lt}
use Rattle.std.proofs.lemmas.List.Folds.{list_any_at}
use Rattle.std.proofs.lemmas.List.Sorted.{searched}
use Rattle.std.proofs.lemmas.List.Sums.{position_or_len_is}
use Rattle.px_base.specs.Values.{is_listed, place_of}

-- the first place at which it stands
pub place_is : (xs : List ℕ) (u at : ℕ) → at < length xs → ((k : ℕ) → k < at → (get_or xs k 0 == u) ≡ false) → get_or xs at 0 ≡ u → at ≡ place_of xs u
place_is xs u at inside before here = sym (position_or_len_is (λ p. p == u) xs at 0 (omega arith) before (λ below. eq-eqb (get_or xs at 0) u here))

none_there : (xs : List ℕ) (u : ℕ) → ((k : ℕ) → k < length xs → (get_or xs k 0 == u) ≡ false) → is_listed xs u ≡ false
none_there [] u none = refl
none_there (x ∷ xs) u none =
    let here : (x == u) ≡ false = none 0 (omega arith) in
    rw here (none_there xs u (λ k below. none (suc k) (omega arith)))

pub not_equal : (a b : ℕ) → a ≢ b → (a == b) ≡ false
not_equal a b h = elim (eqb_tells a b) [ inl (t, same) ↦ absurd (h same) | inr (t, apart) ↦ t ]

-- a rising list rises over any distance
pub rising_apart : (xs : List ℕ) → IsStrictlyIncreasing xs → (i j : ℕ) → i < j → j < length xs → get_or xs i 0 < get_or xs j 0
rising_apart xs rising i zero before inside = absurd (omega arith)
rising_apart xs rising i (suc j) before inside =
    let step : get_or xs j 0 < get_or xs (suc j) 0 = rw add-one at (rising j (omega arith)) in
    elim (cases_lt i j) [ inl more ↦ omega (arith, rising_apart xs rising i j more (omega arith)) | inr last ↦ (let same : i ≡ j = omega arith in rw same step) ]

never_falls : (xs : List ℕ) → IsStrictlyIncreasing xs → (i j : ℕ) → i ≤ j → j < length xs → get_or xs i 0 ≤ get_or xs j 0
never_falls xs rising i j before inside = elim (cases_lt i j) [ inl low ↦ omega (arith, rising_apart xs rising i j low inside) | inr same ↦ (let is : i ≡ j = omega arith in rw is (omega arith)) ]

-- a rising list has at its k-th place at least k
pub rises_from_zero : (xs : List ℕ) → IsStrictlyIncreasing xs → (k : ℕ) → k < length xs → k ≤ get_or xs k 0
rises_from_zero xs rising zero inside = omega arith
rises_from_zero xs rising (suc k) inside = omega (arith, rises_from_zero xs rising k (omega arith), rising_apart xs rising k (suc k) (omega arith) inside)

-- what a binary search found
pub found_place : (xs : List ℕ) (u : ℕ) (r : Result ℕ ℕ) → IsStrictlyIncreasing xs → IsBinarySearchResult (λ y. nat_cmp y u) xs r →
    MatchResult r (λ at. (at ≡ place_of xs u) × (at < length xs) × (is_listed xs u ≡ true)) (λ at. is_listed xs u ≡ false)
found_place xs u r rising search = by_result r (searched xs u r search (never_falls xs rising))
  where
    by_result : (r : Result ℕ ℕ) → MatchResult r (λ i. (i < length xs) × (get_or xs i 0 ≡ u)) (λ i. (i ≤ length xs) × ((k : ℕ) → k < i → get_or xs k 0 < u) × ((k : ℕ) → i ≤ k → k < length xs → u < get_or xs k 0)) →
        MatchResult r (λ at. (at ≡ place_of xs u) × (at < length xs) × (is_listed xs u ≡ true)) (λ at. is_listed xs u ≡ false)
    by_result (Ok at) found = (
      place_is xs u at found.0 (λ k below. not_equal (get_or xs k 0) u (λ e. absurd (omega (arith, rising_apart xs rising k at below found.0, found.1, e)))) found.1,
      found.0,
      list_any_at (λ item. item == u) xs at 0 found.0 (eq-eqb (get_or xs at 0) u found.1),
    )
    by_result (Err at) found = none_there xs u (λ k below. not_equal (get_or xs k 0) u (elim (cases_lt k at) [ inl low ↦ (λ e. absurd (omega (arith, found.1 k low, e))) | inr high ↦ (λ e. absurd (omega (arith, found.2 k high below, e))) ]))
