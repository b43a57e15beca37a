-- The routes of a graph's vertices, as lists of lists.
use Rattle.std.specs.Prelude.{ℕ, ◌<◌, List, All}
use Rattle.std.specs.List.Sorted.{IsStrictlyIncreasing}

-- The routes of all vertices name workers below this number, each route rising.
pub record AreRoutes (workers : ℕ) (routes : List (List ℕ)) : Type 0 where
  pub rises : All IsStrictlyIncreasing routes
  pub within : All (λ route. All (λ j. j < workers) route) routes
