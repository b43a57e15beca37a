-- Which masters a list of those that are due names.
use Rattle.std.specs.Prelude.{◌≡◌, ℕ, ◌<◌, Bool, true, false, List, All, length, slice_index_or}
use Rattle.px_base.specs.Values.{is_listed}

-- the list names masters that there is a mark for, and all that are marked
pub record AreListed (waiting : List ℕ) (marked : List Bool) : Type 0 where
  pub inside : All (λ k. k < length marked) waiting
  pub listed : (k : ℕ) → slice_index_or marked k false ≡ true → is_listed waiting k ≡ true
