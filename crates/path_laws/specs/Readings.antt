-- What the answers of built-in programs say at one vertex. Ways says of a list of weights whether it is that of a walk, or of a
-- path, from a source to the vertex.
use Rattle.std.specs.Prelude.{◌≡◌, ◌≢◌, ◌≤◌, ◌↔◌, ℕ, List, length, slice_index}
use Rattle.px_base.specs.declared.TheConstants.{TOP}
use Rattle.px_base.specs.Rules.{least}

-- x is the least cost of a way, where the cost depends on the weights; it is TOP exactly where there is no way.
pub record IsLeastCost (cost : List ℕ → ℕ) (Ways : List ℕ → Type 0) (x : ℕ) : Type 0 where
  pub none_less : (weights : List ℕ) → Ways weights → x ≤ cost weights
  pub attained : x ≢ TOP → (weights : List ℕ) × Ways weights × (cost weights ≡ x)
  pub top : (x ≡ TOP) ↔ ((weights : List ℕ) → ¬ Ways weights)

-- the least of the weights that are passed, or TOP where none is
abbrev pub width : List ℕ → ℕ
width weights = least TOP weights

-- x is the greatest width of a way, and 0 where there is no way.
pub record IsGreatestWidth (Ways : List ℕ → Type 0) (x : ℕ) : Type 0 where
  pub none_wider : (weights : List ℕ) → Ways weights → width weights ≤ x
  pub attained : x ≢ 0 → (weights : List ℕ) × Ways weights × (width weights ≡ x)
  pub zero : ((weights : List ℕ) → ¬ Ways weights) → x ≡ 0

-- x is the least of the ids of the vertices that pass the test, which are given by position
pub record IsLeastId (ids : List ℕ) (Passes : ℕ → Type 0) (x : ℕ) : Type 0 where
  pub none_less : (u : ℕ) → Passes u → x ≤ slice_index ids u
  pub attained : (u : ℕ) × Passes u × (slice_index ids u ≡ x)

-- x is the greatest length of a way, where each way is given by a list with an entry for each step.
pub record IsGreatestLength (Ways : List ℕ → Type 0) (x : ℕ) : Type 0 where
  pub none_longer : (steps : List ℕ) → Ways steps → length steps ≤ x
  pub attained : (steps : List ℕ) × Ways steps × (length steps ≡ x)
