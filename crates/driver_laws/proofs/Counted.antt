-- Losses, counted by the worker that they name.
use Rattle.std.proofs.Common.{◌≡◌, ℕ, zero, suc, ◌+◌, ◌<◌, ◌≤◌, Bool, true, false, cond, List, [], ◌∷◌, length, get_or, arith, refl, sym, ap, ◌∙◌, subst, zero-add, inl, inr, eq-eqb}
use Rattle.std.specs.Prelude.{◌==◌, All, sum, sum_by}
use Rattle.std.proofs.lemmas.List.Elements.{All-cons, All-head, All-nil, All-tail}
use Rattle.std.proofs.lemmas.Bool.{cases_eq}
use Rattle.std.proofs.lemmas.List.{ext_get_or}
use Rattle.std.proofs.lemmas.List.Sums.{sum-map, sum_by_push}
use Rattle.px_base.specs.declared.wire.Loss.{Loss}
use Rattle.px_base.specs.Values.{by_position, one_if, positions_below}
use Rattle.px_base.proofs.Listed.{not_equal}
use Rattle.px_base.proofs.Members.{range_suc}
use Rattle.px_base.proofs.Positions.{at_position, length_by_position}
use Rattle.list_laws.proofs.Sums.{sum_same, sum_zero}
use Rattle.driver_laws.specs.Seats.{naming}

-- ---- all of them, from those of each worker

kept_head : (x : Loss) (xs : List Loss) → naming x.worker (x ∷ xs) ≡ x ∷ naming x.worker xs
kept_head x xs = ap (λ (b : Bool). cond b (x ∷ naming x.worker xs) (naming x.worker xs)) (eq-eqb x.worker x.worker refl)

kept_rest : (P : Loss → Type 0) (k : ℕ) (x : Loss) (xs : List Loss) → All P (naming k (x ∷ xs)) → All P (naming k xs)
kept_rest P k x xs = by_named (x.worker == k)
  where
    by_named : (b : Bool) → All P (cond b (x ∷ naming k xs) (naming k xs)) → All P (naming k xs)
    by_named true all = All-tail P x (naming k xs) all
    by_named false all = all

-- what holds of the losses of each worker holds of all
pub all_named : (P : Loss → Type 0) (n : ℕ) (losses : List Loss) → All (λ loss. loss.worker < n) losses → ((k : ℕ) → k < n → All P (naming k losses)) → All P losses
all_named P n [] within each = All-nil P
all_named P n (x ∷ xs) within each =
    let here : x.worker < n = All-head (λ loss. loss.worker < n) x xs within in
    All-cons P x xs (All-head P x (naming x.worker xs) (subst (All P) (kept_head x xs) (each x.worker here)))
    (all_named P n xs (All-tail (λ loss. loss.worker < n) x xs within) (λ k below. kept_rest P k x xs (each k below)))

-- ---- their number

pub sum_up : (f : ℕ → ℕ) (n : ℕ) → sum_by f (positions_below (suc n)) ≡ sum_by f (positions_below n) + f n
sum_up f n = ap (λ (xs : List ℕ). sum_by f xs) (range_suc 0 n) ∙ (sum_by_push f (positions_below n) (0 + n) ∙ ap (λ (k : ℕ). sum_by f (positions_below n) + f k) (zero-add n))

pub sum_plus : (f g : ℕ → ℕ) (n : ℕ) → sum_by (λ k. f k + g k) (positions_below n) ≡ sum_by f (positions_below n) + sum_by g (positions_below n)
sum_plus f g zero = refl
sum_plus f g (suc n) = omega (arith, sum_up (λ k. f k + g k) n, sum_up f n, sum_up g n, sum_plus f g n)

-- one stands at the worker's own number, and none before it
none_own : (w n : ℕ) → n ≤ w → sum_by (λ k. one_if (w == k)) (positions_below n) ≡ 0
none_own w zero above = refl
none_own w (suc n) above =
    let other : (w == n) ≡ false = not_equal w n (λ e. omega (arith, above, e)) in
    omega (arith, sum_up (λ k. one_if (w == k)) n, none_own w n (omega (arith, above)), ap one_if other)

one_own : (w n : ℕ) → w < n → sum_by (λ k. one_if (w == k)) (positions_below n) ≡ 1
one_own w zero below = absurd (omega (arith, below))
one_own w (suc n) below = elim (cases_eq w n) [
  | inl e ↦ omega (arith, sum_up (λ k. one_if (w == k)) n, none_own w n (omega (arith, e)), ap one_if (eq-eqb w n e))
  | inr ne ↦ omega (arith, sum_up (λ k. one_if (w == k)) n, one_own w n (omega (arith, below, ne)), ap one_if (not_equal w n ne))
]

length_named : (k : ℕ) (x : Loss) (xs : List Loss) → length (naming k (x ∷ xs)) ≡ one_if (x.worker == k) + length (naming k xs)
length_named k x xs = by_named (x.worker == k)
  where
    by_named : (b : Bool) → length (cond b (x ∷ naming k xs) (naming k xs)) ≡ one_if b + length (naming k xs)
    by_named true = omega arith
    by_named false = omega arith

-- the losses of all workers are all losses
pub named_total : (n : ℕ) (losses : List Loss) → All (λ loss. loss.worker < n) losses → sum_by (λ k. length (naming k losses)) (positions_below n) ≡ length losses
named_total n [] within = sum_zero (positions_below n)
named_total n (x ∷ xs) within =
    let own = one_own x.worker n (All-head (λ loss. loss.worker < n) x xs within) in
    let rest = named_total n xs (All-tail (λ loss. loss.worker < n) x xs within) in
    sum_same (λ k. length (naming k (x ∷ xs))) (λ k. one_if (x.worker == k) + length (naming k xs)) (λ k. length_named k x xs) (positions_below n)
    ∙ (sum_plus (λ k. one_if (x.worker == k)) (λ k. length (naming k xs)) n ∙ omega (arith, own, rest))

-- ---- sums by position

-- a sum of a list, whose entries are given by position
pub sum_by_each : (f : ℕ → ℕ) (xs : List ℕ) → ((k : ℕ) → k < length xs → get_or xs k 0 ≡ f k) → sum xs ≡ sum_by f (positions_below (length xs))
sum_by_each f xs each = ap sum (is_by_position f xs each) ∙ sum-map f (positions_below (length xs))
  where
    is_by_position : (f : ℕ → ℕ) (xs : List ℕ) → ((k : ℕ) → k < length xs → get_or xs k 0 ≡ f k) → xs ≡ by_position (length xs) f
    is_by_position f xs each = ext_get_or 0 xs (by_position (length xs) f) (sym (length_by_position (length xs) f)) (λ k below. each k below ∙ sym (at_position (length xs) f k 0 below))

-- a sum of no greater numbers is no greater
pub sum_no_more : (one other : ℕ → ℕ) (n : ℕ) → ((k : ℕ) → k < n → one k ≤ other k) → sum_by one (positions_below n) ≤ sum_by other (positions_below n)
sum_no_more one other zero each = omega arith
sum_no_more one other (suc n) each = omega (arith, sum_up one n, sum_up other n, sum_no_more one other n (λ k below. each k (omega (arith, below))), each n (omega arith))

pub sum_below_each : (f : ℕ → ℕ) (xs : List ℕ) → ((k : ℕ) → k < length xs → get_or xs k 0 ≤ f k) → sum xs ≤ sum_by f (positions_below (length xs))
sum_below_each f xs each = rw (sum_by_each (λ k. get_or xs k 0) xs (λ k below. refl)) (sum_no_more (λ k. get_or xs k 0) f (length xs) each)

-- with one more for each position
pub sum_one_more : (f : ℕ → ℕ) (n : ℕ) → sum_by (λ k. f k + 1) (positions_below n) ≡ sum_by f (positions_below n) + n
sum_one_more f zero = refl
sum_one_more f (suc n) = omega (arith, sum_up (λ k. f k + 1) n, sum_up f n, sum_one_more f n)
