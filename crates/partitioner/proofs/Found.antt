-- Some element of a part of a list passes a test.
use Rattle.std.proofs.Common.{◌≡◌, ℕ, ◌+◌, ◌-◌, ◌<◌, ◌≤◌, Bool, true, List, length, get_or, take, drop, ap, sym, ◌∙◌, arith, length-take, length-drop, get_or-take, get_or-drop, zero-add}
use Rattle.std.specs.Prelude.{Any}
use Rattle.std.specs.List.{list_any}
use Rattle.std.proofs.lemmas.List.{get_or_default}
use Rattle.std.proofs.lemmas.List.Folds.{Any-from_list_any, list_any_at}
use Rattle.std.proofs.lemmas.List.FromFn.{length-range_with_len, get_or-range_with_len}
use Rattle.px_base.specs.Values.{positions_below}

-- the element at the place passes
pub record PassesAt {X : Type 0} (p : X → Bool) (xs : List X) (d : X) (k : ℕ) : Type 0 where
  pub inside : k < length xs
  pub passes : p (get_or xs k d) ≡ true

pub passing : {X : Type 0} (p : X → Bool) (xs : List X) (d : X) → list_any p xs ≡ true → (k : ℕ) × PassesAt p xs d k
passing p xs d h =
    let found : Any (λ x. p x ≡ true) xs = Any-from_list_any p xs h in
    (found.0, record { inside = found.2; passes = ap p (get_or_default xs found.0 d found.1 found.2 ∙ found.3) ∙ found.4 })

-- ---- in a front, or past one

pub in_front : {X : Type 0} (p : X → Bool) (xs : List X) (m : ℕ) (d : X) → list_any p (take m xs) ≡ true → (k : ℕ) × (k < m) × PassesAt p xs d k
in_front p xs m d h =
    let found : (k : ℕ) × PassesAt p (take m xs) d k = passing p (take m xs) d h in
    let low : found.0 < m = omega (arith, found.1.inside, length-take m xs) in
    (found.0, low, record { inside = omega (arith, found.1.inside, length-take m xs); passes = ap p (sym (get_or-take m xs found.0 d low)) ∙ found.1.passes })

pub front_has : {X : Type 0} (p : X → Bool) (xs : List X) (m k : ℕ) (d : X) → k < m → PassesAt p xs d k → list_any p (take m xs) ≡ true
front_has p xs m k d low at = list_any_at p (take m xs) k d (omega (arith, at.inside, length-take m xs)) (ap p (get_or-take m xs k d low) ∙ at.passes)

-- the same element, by its place in the whole list and past the front
pub from_back : {X : Type 0} (p : X → Bool) (xs : List X) (m k : ℕ) (d : X) → PassesAt p (drop m xs) d k → PassesAt p xs d (m + k)
from_back p xs m k d at = record { inside = omega (arith, at.inside, length-drop m xs); passes = ap p (sym (get_or-drop m xs k d)) ∙ at.passes }

pub to_back : {X : Type 0} (p : X → Bool) (xs : List X) (m k : ℕ) (d : X) → m ≤ k → PassesAt p xs d k → PassesAt p (drop m xs) d (k - m)
to_back p xs m k d high at =
    let place : m + (k - m) ≡ k = omega arith in
    record { inside = omega (arith, at.inside, length-drop m xs); passes = ap p (get_or-drop m xs (k - m) d ∙ ap (λ j. get_or xs j d) place) ∙ at.passes }

pub in_back : {X : Type 0} (p : X → Bool) (xs : List X) (m : ℕ) (d : X) → list_any p (drop m xs) ≡ true → (k : ℕ) × (m ≤ k) × PassesAt p xs d k
in_back p xs m d h =
    let found : (k : ℕ) × PassesAt p (drop m xs) d k = passing p (drop m xs) d h in
    (m + found.0, omega arith, from_back p xs m found.0 d found.1)

pub back_has : {X : Type 0} (p : X → Bool) (xs : List X) (m k : ℕ) (d : X) → m ≤ k → PassesAt p xs d k → list_any p (drop m xs) ≡ true
back_has p xs m k d high at = let back : PassesAt p (drop m xs) d (k - m) = to_back p xs m k d high at in list_any_at p (drop m xs) (k - m) d back.inside back.passes

-- ---- among the positions

pub some_position : (p : ℕ → Bool) (n : ℕ) → list_any p (positions_below n) ≡ true → (k : ℕ) × (k < n) × (p k ≡ true)
some_position p n h =
    let found : (k : ℕ) × PassesAt p (positions_below n) 0 k = passing p (positions_below n) 0 h in
    let low : found.0 < n = omega (arith, found.1.inside, length-range_with_len 0 n) in
    (found.0, low, ap p (sym (get_or-range_with_len 0 n found.0 0 low ∙ zero-add found.0)) ∙ found.1.passes)

pub position_has : (p : ℕ → Bool) (n k : ℕ) → k < n → p k ≡ true → list_any p (positions_below n) ≡ true
position_has p n k low h =
    list_any_at p (positions_below n) k 0 (omega (arith, length-range_with_len 0 n)) (ap p (get_or-range_with_len 0 n k 0 low ∙ zero-add k) ∙ h)
