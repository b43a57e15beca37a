-- Where only masters change that are listed, some master changes where one of these does.
use Rattle.std.proofs.Common.{◌≡◌, ℕ, suc, zero-add, ◌<◌, ◌∙◌, Bool, true, false, List, [], ◌∷◌, get_or, refl, sym, ap, arith, inl, inr}
use Rattle.std.specs.List.{list_any}
use Rattle.std.specs.Prelude.{All}
use Rattle.std.proofs.lemmas.Bool.Decides.{eqb_tells}
use Rattle.std.proofs.lemmas.List.Folds.{list_any_at, list_any_none}
use Rattle.std.proofs.lemmas.List.FromFn.{get_or-range_with_len, length-range_with_len}
use Rattle.px_base.specs.Values.{is_listed, positions_below}

none_any : (p : ℕ → Bool) (xs : List ℕ) → list_any p xs ≡ false → All (λ x. p x ≡ false) xs
none_any p xs none i d inside = by_value (p (get_or xs i d)) refl
  where
    by_value : (b : Bool) → p (get_or xs i d) ≡ b → b ≡ false
    by_value true e = (let some : list_any p xs ≡ true = list_any_at p xs i d inside e in cc)
    by_value false e = refl

listed_none : (p : ℕ → Bool) (xs : List ℕ) (k : ℕ) → All (λ x. p x ≡ false) xs → is_listed xs k ≡ true → p k ≡ false
listed_none p [] k none listed = cc
listed_none p (x ∷ xs) k none listed = elim (eqb_tells x k) [
  | inl (t, same) ↦ ap p (sym same) ∙ none 0 x (omega arith)
  | inr (t, apart) ↦ listed_none p xs k (λ i d inside. none (suc i) d (omega arith)) (rw t at listed)
]

each_none : (p : ℕ → Bool) (n k : ℕ) → list_any p (positions_below n) ≡ false → k < n → p k ≡ false
each_none p n k none below =
    let is : get_or (positions_below n) k 0 ≡ k = get_or-range_with_len 0 n k 0 below ∙ zero-add k in
    ap p (sym is) ∙ none_any p (positions_below n) none k 0 (omega (arith, below, length-range_with_len 0 n))

none_below : (p : ℕ → Bool) (n : ℕ) → ((k : ℕ) → k < n → p k ≡ false) → list_any p (positions_below n) ≡ false
none_below p n each = list_any_none p (positions_below n) (λ i d inside.
    let below : i < n = omega (arith, inside, length-range_with_len 0 n) in
    ap p (get_or-range_with_len 0 n i d below ∙ zero-add i) ∙ each i below)

both_ways : (a b : Bool) → (a ≡ false → b ≡ false) → (b ≡ false → a ≡ false) → a ≡ b
both_ways true true f g = refl
both_ways true false f g = g refl
both_ways false true f g = sym (f refl)
both_ways false false f g = refl

pub changed_listed : (p : ℕ → Bool) (masters : List ℕ) (n : ℕ) → All (λ k. k < n) masters → ((k : ℕ) → k < n → is_listed masters k ≡ false → p k ≡ false) → list_any p masters ≡ list_any p (positions_below n)
changed_listed p masters n inside rest = both_ways (list_any p masters) (list_any p (positions_below n))
    (λ none. none_below p n (λ k below. by_list (is_listed masters k) k below refl none))
    (λ none. list_any_none p masters (λ i d below. each_none p n (get_or masters i d) none (inside i d below)))
  where
    by_list : (b : Bool) (k : ℕ) → k < n → is_listed masters k ≡ b → list_any p masters ≡ false → p k ≡ false
    by_list true k below listed none = listed_none p masters k (none_any p masters none) listed
    by_list false k below listed none = rest k below listed
