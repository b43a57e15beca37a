-- The values that the workers have reported.
use Rattle.std.specs.Prelude.{◌≡◌, ℕ, List, ◌++◌, length, Option, Some, None, slice_index_or, slice_range, take, drop}
use Rattle.px_base.specs.Parts.{low_of, high_of}
use Rattle.partitioner.specs.Cuts.{vertex_count}

-- the list with these from low on, in place of those before high
abbrev pub overwritten : List ℕ → ℕ → ℕ → List ℕ → List ℕ
overwritten values low high xs = take low values ++ xs ++ drop high values

-- There is a value for each vertex. Those of the masters of a worker that has reported are what it reported.
pub record HoldsReports (ends : List ℕ) (reported : List (Option (List ℕ))) (values : List ℕ) : Type 0 where
  pub size : length values ≡ vertex_count ends
  pub held : (i : ℕ) (xs : List ℕ) → slice_index_or reported i None ≡ Some xs → slice_range values (low_of ends i) (high_of ends i) ≡ xs
