-- A list that is gone through from its front: what has been taken, and what is left.
use Rattle.std.proofs.Common.{◌≡◌, ℕ, zero, suc, ◌+◌, ◌<◌, ◌≤◌, List, [], ◌∷◌, ◌++◌, length, take, drop, refl, ap, arith, add-one}

longer : {X : Type 0} (n : ℕ) (all next : List X) (x : X) → drop n all ≡ x ∷ next → take (suc n) all ≡ take n all ++ x ∷ []
longer zero [] next x h = absurd (cc h)
longer zero (y ∷ ys) next x h = cc h
longer (suc n) [] next x h = absurd (cc h)
longer (suc n) (y ∷ ys) next x h = ap (λ zs. y ∷ zs) (longer n ys next x h)

shorter : {X : Type 0} (n : ℕ) (all next : List X) (x : X) → drop n all ≡ x ∷ next → next ≡ drop (suc n) all
shorter zero [] next x h = absurd (cc h)
shorter zero (y ∷ ys) next x h = cc h
shorter (suc n) [] next x h = absurd (cc h)
shorter (suc n) (y ∷ ys) next x h = shorter n ys next x h

-- what has been taken, with the next one
pub front_more : {X : Type 0} (n : ℕ) (all next : List X) (x : X) → drop n all ≡ x ∷ next → take (n + 1) all ≡ take n all ++ x ∷ []
front_more n all next x h = rw add-one (longer n all next x h)

-- what is left then
pub back_less : {X : Type 0} (n : ℕ) (all next : List X) (x : X) → drop n all ≡ x ∷ next → next ≡ drop (n + 1) all
back_less n all next x h = rw add-one (shorter n all next x h)

-- where one is left, fewer than all have been taken
pub room_left : {X : Type 0} (n : ℕ) (all next : List X) (x : X) → drop n all ≡ x ∷ next → n < length all
room_left zero [] next x h = absurd (cc h)
room_left zero (y ∷ ys) next x h = omega arith
room_left (suc n) [] next x h = absurd (cc h)
room_left (suc n) (y ∷ ys) next x h = omega (arith, room_left n ys next x h)

-- where none is left, all have been taken
pub all_taken : {X : Type 0} (n : ℕ) (all : List X) → drop n all ≡ [] → n ≤ length all → (take n all ≡ all) × (n ≡ length all)
all_taken zero [] h within = (refl, refl)
all_taken zero (y ∷ ys) h within = absurd (cc h)
all_taken (suc n) [] h within = absurd (omega (arith, within))
all_taken (suc n) (y ∷ ys) h within = let rest = all_taken n ys h (omega (arith, within)) in (ap (λ zs. y ∷ zs) rest.0, ap (λ (m : ℕ). suc m) rest.1)

-- as many have been taken as were taken
pub length_front : {X : Type 0} (n : ℕ) (all : List X) → n ≤ length all → length (take n all) ≡ n
length_front zero all within = refl
length_front (suc n) [] within = absurd (omega (arith, within))
length_front (suc n) (y ∷ ys) within = ap (λ (m : ℕ). suc m) (length_front n ys (omega (arith, within)))
