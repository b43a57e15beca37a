-- The least grows with what it is taken of.
use Rattle.std.proofs.Common.{ℕ, ◌≤◌, min, List, [], ◌∷◌, arith}
use Rattle.std.specs.List.{AllZip}
use Rattle.px_base.specs.Rules.{least}

-- with the start value
pub grows_with_start : (a b : ℕ) (items : List ℕ) → a ≤ b → least a items ≤ least b items
grows_with_start a b [] below = below
grows_with_start a b (x ∷ xs) below = grows_with_start (min a x) (min b x) xs (omega (arith, below))

-- with the start value and each item
grows_with_all : (a b : ℕ) (xs ys : List ℕ) → a ≤ b → AllZip (λ x y. x ≤ y) xs ys → least a xs ≤ least b ys
grows_with_all a b [] [] below each = below
grows_with_all a b [] (y ∷ ys) below each = absurd each
grows_with_all a b (x ∷ xs) [] below each = absurd each
grows_with_all a b (x ∷ xs) (y ∷ ys) below each = grows_with_all (min a x) (min b y) xs ys (omega (arith, below, each.0)) each.1

-- with each item
pub grows_with_items : (start : ℕ) (a b : List ℕ) → AllZip (λ x y. x ≤ y) a b → least start a ≤ least start b
grows_with_items start a b each = grows_with_all start start a b (omega arith) each
