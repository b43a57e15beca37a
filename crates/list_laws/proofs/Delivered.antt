-- What one more worker of a rising route gets.
use Rattle.std.proofs.Common.{◌≡◌, ℕ, ◌+◌, ◌<◌, ◌≢◌, Bool, true, false, cond, List, [], ◌∷◌, ◌++◌, length, take, get_or, set, refl, sym, ap, ◌∙◌, arith, inl, inr, append-nil, get_or-set_same, get_or-set_other, length-take, get_or-take, add-one}
use Rattle.std.specs.Prelude.{◌==◌, ◌||◌}
use Rattle.std.specs.List.Sorted.{IsStrictlyIncreasing}
use Rattle.std.proofs.lemmas.Bool.Decides.{eqb_tells}
use Rattle.std.proofs.lemmas.List.{get_or_default}
use Rattle.std.proofs.lemmas.List.Folds.{list_any-append, list_any_none}
use Rattle.std.proofs.Math.Seq.{take-suc}
use Rattle.px_base.specs.Values.{is_listed}
use Rattle.px_base.proofs.Listed.{not_equal, rising_apart}

-- an entry of a rising list isn't among the earlier ones
not_before : (route : List ℕ) (i : ℕ) → IsStrictlyIncreasing route → i < length route → is_listed (take i route) (get_or route i 0) ≡ false
not_before route i rises inside = list_any_none (λ item. item == get_or route i 0) (take i route) (λ k d below.
    let low : k < i = omega (arith, length-take i route) in
    let room : k < length route = omega arith in
    not_equal (get_or (take i route) k d) (get_or route i 0) (λ e. absurd (omega (arith, e, get_or-take i route k d low, get_or_default route k d 0 room, rising_apart route rises k i low inside))))

or_false : (b : Bool) → (b || false) ≡ b
or_false true = refl
or_false false = refl

listed_more : (route : List ℕ) (i k : ℕ) → i < length route → is_listed (take (i + 1) route) k ≡ (is_listed (take i route) k || (get_or route i 0 == k))
listed_more route i k inside =
    ap (λ xs. is_listed xs k) (ap (λ m. take m route) (add-one i) ∙ take-suc route i 0 inside)
    ∙ list_any-append (λ item. item == k) (take i route) (get_or route i 0 ∷ [])
    ∙ ap (λ b. is_listed (take i route) k || b) (or_false (get_or route i 0 == k))

or_true : (b : Bool) → (b || true) ≡ true
or_true true = refl
or_true false = refl

pub delivered_more : {X : Type 0} (boxes before : List (List X)) (route : List ℕ) (i j k : ℕ) (next : List X) (u : X) → IsStrictlyIncreasing route → i < length route → j ≡ get_or route i 0 →
    j < length boxes → next ≡ get_or boxes j [] ++ u ∷ [] → get_or boxes k [] ≡ get_or before k [] ++ cond (is_listed (take i route) k) (u ∷ []) [] →
    get_or (set boxes j next) k [] ≡ get_or before k [] ++ cond (is_listed (take (i + 1) route) k) (u ∷ []) []
delivered_more boxes before route i j k next u rises inside is room more old = elim (eqb_tells j k) [
  | inl (t, same) ↦
      (let fresh : is_listed (take i route) k ≡ false = ap (is_listed (take i route)) (sym same ∙ is) ∙ not_before route i rises inside in
      let now : is_listed (take (i + 1) route) k ≡ true = listed_more route i k inside ∙ ap (λ b. is_listed (take i route) k || b) (ap (λ x. x == k) (sym is) ∙ t) ∙ or_true (is_listed (take i route) k) in
      let empty : get_or boxes k [] ≡ get_or before k [] = old ∙ ap (λ b. get_or before k [] ++ cond b (u ∷ []) []) fresh ∙ append-nil (get_or before k []) in
      ap (λ m. get_or (set boxes j next) m []) (sym same) ∙ get_or-set_same boxes j next [] room ∙ more ∙ ap (λ m. get_or boxes m [] ++ u ∷ []) same ∙ ap (λ l. l ++ u ∷ []) empty
      ∙ sym (ap (λ b. get_or before k [] ++ cond b (u ∷ []) []) now))
  | inr (t, apart) ↦
      (let other : k ≢ j = λ e. apart (sym e) in
      let now : is_listed (take (i + 1) route) k ≡ is_listed (take i route) k = listed_more route i k inside ∙ ap (λ b. is_listed (take i route) k || b) (ap (λ x. x == k) (sym is) ∙ t) ∙ or_false (is_listed (take i route) k) in
      get_or-set_other boxes j k next [] other ∙ old ∙ sym (ap (λ b. get_or before k [] ++ cond b (u ∷ []) []) now))
]
