-- Laws of counts that stop at their last value.
use Rattle.std.proofs.Common.{◌≡◌, ℕ, zero, suc, ◌+◌, ◌<◌, ◌≤◌, List, [], ◌∷◌, ◌++◌, length, set, refl, ap, arith}
use Rattle.std.specs.Prelude.{All, sum, slice_index}
use Rattle.std.proofs.lemmas.List.Elements.{All-head, All-tail}
use Rattle.std.proofs.lemmas.List.Sums.{sum_by-cons}
use Rattle.px_io.specs.Causes.{LAST}
use Rattle.link_trait.specs.Counts.{more_by, all_more_by}

-- ---- one count

-- below the last value it is the sum
pub more_is_sum : (a b : ℕ) → more_by a b < LAST → more_by a b ≡ a + b
more_is_sum a b below = omega (arith, below)

-- ---- the counts of all workers

-- there are as many as before
pub length_more : (xs ys : List ℕ) → length (all_more_by xs ys) ≡ length xs
length_more xs [] = refl
length_more [] (y ∷ ys) = refl
length_more (x ∷ xs) (y ∷ ys) = ap (λ (n : ℕ). suc n) (length_more xs ys)

-- the count of a worker whose spawner came back
pub more_at : (xs ys : List ℕ) (k : ℕ) → k < length xs → k < length ys → slice_index (all_more_by xs ys) k ≡ more_by (slice_index xs k) (slice_index ys k)
more_at [] ys k below below' = absurd (omega (arith, below))
more_at (x ∷ xs) [] k below below' = absurd (omega (arith, below'))
more_at (x ∷ xs) (y ∷ ys) zero below below' = refl
more_at (x ∷ xs) (y ∷ ys) (suc k) below below' = more_at xs ys k (omega (arith, below)) (omega (arith, below'))

-- the count of any other worker
pub same_at : (xs ys : List ℕ) (k : ℕ) → length ys ≤ k → slice_index (all_more_by xs ys) k ≡ slice_index xs k
same_at xs [] k past = refl
same_at [] (y ∷ ys) k past = refl
same_at (x ∷ xs) (y ∷ ys) zero past = absurd (omega (arith, past))
same_at (x ∷ xs) (y ∷ ys) (suc k) past = same_at xs ys k (omega (arith, past))

-- no count falls
pub never_less : (xs ys : List ℕ) (k : ℕ) → slice_index xs k ≤ LAST → slice_index xs k ≤ slice_index (all_more_by xs ys) k
never_less xs [] k small = omega arith
never_less [] (y ∷ ys) k small = omega arith
never_less (x ∷ xs) (y ∷ ys) zero small = omega (arith, small)
never_less (x ∷ xs) (y ∷ ys) (suc k) small = never_less xs ys k small

-- ---- sums

-- where the sum of all is below the last value, it rises by the sum of what came
pub sum_more : (xs ys : List ℕ) → length ys ≤ length xs → sum xs + sum ys ≤ LAST → sum (all_more_by xs ys) ≡ sum xs + sum ys
sum_more xs [] fits small = omega arith
sum_more [] (y ∷ ys) fits small = absurd (omega (arith, fits))
sum_more (x ∷ xs) (y ∷ ys) fits small =
    let a = sum_by-cons (λ (n : ℕ). n) x xs in
    let b = sum_by-cons (λ (n : ℕ). n) y ys in
    let c = sum_by-cons (λ (n : ℕ). n) (more_by x y) (all_more_by xs ys) in
    let rest = sum_more xs ys (omega (arith, fits)) (omega (arith, small, a, b)) in
    omega (arith, a, b, c, rest, small)

-- the same where no count has come to its last value
pub sum_exact : (xs ys : List ℕ) → length ys ≤ length xs → All (λ (n : ℕ). n < LAST) (all_more_by xs ys) → sum (all_more_by xs ys) ≡ sum xs + sum ys
sum_exact xs [] fits below = omega arith
sum_exact [] (y ∷ ys) fits below = absurd (omega (arith, fits))
sum_exact (x ∷ xs) (y ∷ ys) fits below =
    let a = sum_by-cons (λ (n : ℕ). n) x xs in
    let b = sum_by-cons (λ (n : ℕ). n) y ys in
    let c = sum_by-cons (λ (n : ℕ). n) (more_by x y) (all_more_by xs ys) in
    let rest = sum_exact xs ys (omega (arith, fits)) (All-tail (λ (n : ℕ). n < LAST) (more_by x y) (all_more_by xs ys) below) in
    let head : more_by x y < LAST = All-head (λ (n : ℕ). n < LAST) (more_by x y) (all_more_by xs ys) below in
    omega (arith, a, b, c, rest, head)

-- ---- one worker after another

-- with one spawner more
pub more_push : (xs ys : List ℕ) (y : ℕ) → length ys < length xs → all_more_by xs (ys ++ y ∷ []) ≡ set (all_more_by xs ys) (length ys) (more_by (slice_index (all_more_by xs ys) (length ys)) y)
more_push [] ys y below = absurd (omega (arith, below))
more_push (x ∷ xs) [] y below = refl
more_push (x ∷ xs) (z ∷ ys) y below = ap (λ (rest : List ℕ). more_by x z ∷ rest) (more_push xs ys y (omega (arith, below)))
