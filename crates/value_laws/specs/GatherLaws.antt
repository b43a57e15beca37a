-- What is gathered is a value.
use Rattle.std.proofs.Common.{ℕ, ◌≡◌, ◌≤◌, true, List, length, refl, arith, eq-eqb}
use Rattle.std.specs.Prelude.{◌==◌, Contains}
use Rattle.std.proofs.lemmas.List.Folds.{list_any_at}
use Rattle.px_base.specs.Values.{IsValue, is_listed}
use Rattle.px_base.specs.Rules.{least, mex, IsMex}
use Rattle.px_base.proofs.Gathers.{least_below_start, mex_is, pigeons}

pub least_in_range : (start : ℕ) (items : List ℕ) → IsValue start → IsValue (least start items)
least_in_range start items hs = omega (arith, hs, least_below_start start items)

pub among : (items : List ℕ) (k : ℕ) → Contains items k → is_listed items k ≡ true
among items k (i, below, is) = list_any_at (λ x. x == k) items i k below (rw is (eq-eqb k k refl))

-- the mex is at most the number of items
mex_within : (items : List ℕ) (m : ℕ) → IsMex items m → m ≤ length items
mex_within items m is = pigeons m items (λ k below. among items k (is.each_below k below))

pub mex_in_range : (items : List ℕ) → IsValue (length items) → IsValue (mex items)
mex_in_range items few = omega (arith, few, mex_within items (mex items) (mex_is items))
