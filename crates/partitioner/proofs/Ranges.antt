-- Filters of the positions of a range.
use Rattle.std.proofs.Common.{◌≡◌, ℕ, zero, suc, ◌+◌, ◌-◌, ◌<◌, ◌≤◌, Bool, true, false, cond, List, [], ◌∷◌, ◌++◌, refl, ap, ◌∙◌, arith, sym, append-nil, inl, inr}
use Rattle.std.proofs.lemmas.Bool.{cases_lt}
use Rattle.std.specs.Prelude.{filter}
use Rattle.std.specs.List.{range_with_len}
use Rattle.std.proofs.lemmas.List.Elements.{filter-append}
use Rattle.px_base.specs.Values.{positions_below}

-- one position more
range_more : (a n j : ℕ) → a + n ≡ j → range_with_len a (suc n) ≡ range_with_len a n ++ j ∷ []
range_more a zero j at = let same : a ≡ j = omega arith in rw same refl
range_more a (suc n) j at = ap (λ rest. a ∷ rest) (range_more (a + 1) n j (omega arith))

filter_more_at : (p : ℕ → Bool) (a n j m : ℕ) → a + n ≡ j → m ≡ suc n → filter p (range_with_len a m) ≡ filter p (range_with_len a n) ++ cond (p j) (j ∷ []) []
filter_more_at p a n j m at is = ap (λ k. filter p (range_with_len a k)) is ∙ ap (filter p) (range_more a n j at) ∙ filter-append p (range_with_len a n) (j ∷ [])

pub filter_positions_more : (p : ℕ → Bool) (n : ℕ) → filter p (positions_below (n + 1)) ≡ filter p (positions_below n) ++ cond (p n) (n ∷ []) []
filter_positions_more p n = filter_more_at p 0 n n (n + 1) (omega arith) (omega arith)

pub filter_range_more : (p : ℕ → Bool) (low at : ℕ) → low ≤ at → filter p (range_with_len low (at + 1 - low)) ≡ filter p (range_with_len low (at - low)) ++ cond (p at) (at ∷ []) []
filter_range_more p low at below = filter_more_at p low (at - low) at (at + 1 - low) (omega arith) (omega arith)

-- two tests that agree on the range keep the same of it
agree_at : (p q : ℕ → Bool) (a : ℕ) (xs ys : List ℕ) → p a ≡ q a → filter p xs ≡ filter q ys → filter p (a ∷ xs) ≡ filter q (a ∷ ys)
agree_at p q a xs ys here rest = rw (here, rest) refl

pub filters_agree : (p q : ℕ → Bool) (a n : ℕ) → ((v : ℕ) → a ≤ v → v < a + n → p v ≡ q v) → filter p (range_with_len a n) ≡ filter q (range_with_len a n)
filters_agree p q a zero same = refl
filters_agree p q a (suc n) same =
    agree_at p q a (range_with_len (a + 1) n) (range_with_len (a + 1) n) (same a (omega arith) (omega arith))
    (filters_agree p q (a + 1) n (λ v low high. same v (omega arith) (omega arith)))

-- one position more of the range, which passes or doesn't
pub found_yes : (p : ℕ → Bool) (low at : ℕ) (before now : List ℕ) → low ≤ at → p at ≡ true → before ≡ filter p (range_with_len low (at - low)) → now ≡ before ++ at ∷ [] → now ≡ filter p (range_with_len low (at + 1 - low))
found_yes p low at before now below here is more = more ∙ ap (λ xs. xs ++ at ∷ []) is ∙ sym (filter_range_more p low at below ∙ ap (λ b. filter p (range_with_len low (at - low)) ++ cond b (at ∷ []) []) here)

pub found_no : (p : ℕ → Bool) (low at : ℕ) (before now : List ℕ) → low ≤ at → p at ≡ false → before ≡ filter p (range_with_len low (at - low)) → now ≡ before → now ≡ filter p (range_with_len low (at + 1 - low))
found_no p low at before now below fails is same = same ∙ is ∙ sym (filter_range_more p low at below ∙ ap (λ b. filter p (range_with_len low (at - low)) ++ cond b (at ∷ []) []) fails ∙ append-nil (filter p (range_with_len low (at - low))))

-- one position more of all positions
pub placed_yes : (p : ℕ → Bool) (at : ℕ) (before now : List ℕ) → p at ≡ true → before ≡ filter p (positions_below at) → now ≡ before ++ at ∷ [] → now ≡ filter p (positions_below (at + 1))
placed_yes p at before now here is more = more ∙ ap (λ xs. xs ++ at ∷ []) is ∙ sym (filter_positions_more p at ∙ ap (λ b. filter p (positions_below at) ++ cond b (at ∷ []) []) here)

pub placed_no : (p : ℕ → Bool) (at : ℕ) (before now : List ℕ) → p at ≡ false → before ≡ filter p (positions_below at) → now ≡ before → now ≡ filter p (positions_below (at + 1))
placed_no p at before now fails is same = same ∙ is ∙ sym (filter_positions_more p at ∙ ap (λ b. filter p (positions_below at) ++ cond b (at ∷ []) []) fails ∙ append-nil (filter p (positions_below at)))

-- ---- a stretch in which nothing passes

gap_at : (p : ℕ → Bool) (m n : ℕ) → p n ≡ false → filter p (positions_below n) ≡ filter p (positions_below m) → filter p (positions_below (n + 1)) ≡ filter p (positions_below m)
gap_at p m n fails rest = filter_positions_more p n ∙ ap (λ b. filter p (positions_below n) ++ cond b (n ∷ []) []) fails ∙ append-nil (filter p (positions_below n)) ∙ rest

pub gap : (p : ℕ → Bool) (m n : ℕ) → m ≤ n → ((k : ℕ) → m ≤ k → k < n → p k ≡ false) → filter p (positions_below n) ≡ filter p (positions_below m)
gap p m zero within none = let same : m ≡ 0 = omega arith in ap (λ k. filter p (positions_below k)) (sym same)
gap p m (suc n) within none = elim (cases_lt n m) [
  | inl end ↦ (let same : suc n ≡ m = omega arith in ap (λ k. filter p (positions_below k)) same)
  | inr more ↦ (let one : n + 1 ≡ suc n = omega arith in
      ap (λ k. filter p (positions_below k)) (sym one) ∙ gap_at p m n (none n more (omega arith)) (gap p m n more (λ k low high. none k low (omega arith))))
]
