-- Paths along the edges of an edge list. A vertex is named by its position.
use Rattle.std.specs.Prelude.{◌≡◌, ℕ, ◌<◌, IsTrue, List, [], ◌∷◌, Contains}
use Rattle.std.specs.List.{list_any}
use Rattle.px_base.specs.declared.graph.Edge.{Edge}
use Rattle.px_base.specs.Values.{is_listed}
use Rattle.px_base.specs.Graphs.{joins}

-- A path leads from u to v along edges of these weights, in this order, each from its source to its target. The empty path
-- leads from each vertex to itself.
abbrev pub IsPath : List Edge → ℕ → ℕ → List ℕ → Type 0
IsPath edges u v [] = u ≡ v
IsPath edges u v (w ∷ weights) = (next : ℕ) × Contains edges (record { source = u; target = next; weight = w }) × IsPath edges next v weights

-- a path along edges of these weights leads to v from a source
abbrev pub IsSourcePath : List Edge → List ℕ → ℕ → List ℕ → Type 0
IsSourcePath edges sources v weights = (u : ℕ) × IsTrue (is_listed sources u) × IsPath edges u v weights

-- A chain of edges, each passed in either direction, goes from u by these vertices to v, the last of them.
abbrev pub IsChain : List Edge → ℕ → ℕ → List ℕ → Type 0
IsChain edges u v [] = u ≡ v
IsChain edges u v (next ∷ vertices) = IsTrue (list_any (joins u next) edges) × IsChain edges next v vertices

-- some chain of edges goes from u to v
abbrev pub IsConnected : List Edge → ℕ → ℕ → Type 0
IsConnected edges u v = (vertices : List ℕ) × IsChain edges u v vertices

-- A chain of edges goes up from u by these vertices to v, the last of them: each stands after the one before.
abbrev pub IsRisingChain : List Edge → ℕ → ℕ → List ℕ → Type 0
IsRisingChain edges u v [] = u ≡ v
IsRisingChain edges u v (next ∷ vertices) = IsTrue (list_any (joins u next) edges) × (u < next) × IsRisingChain edges next v vertices

-- such a chain goes up by these vertices to v from some vertex
abbrev pub IsRisingChainTo : List Edge → ℕ → List ℕ → Type 0
IsRisingChainTo edges v vertices = (u : ℕ) × IsRisingChain edges u v vertices
