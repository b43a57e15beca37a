-- Worked examples of paths and chains, computed by the checker. Those of walks stand in walk_terms.
use Rattle.std.proofs.Common.{◌≡◌, ℕ, List, [], ◌∷◌, refl, arith, inr}
use Rattle.px_base.specs.declared.TheConstants.{TOP}
use Rattle.px_base.specs.declared.graph.Edge.{Edge}
use Rattle.px_base.specs.Lines.{IdEdge}
use Rattle.path_laws.specs.ByIds.{IsIdChain, IsIdPath}
use Rattle.path_laws.specs.Paths.{IsChain, IsPath, IsRisingChain}
use Rattle.path_laws.specs.Readings.{width}

abbrev edge : ℕ → ℕ → ℕ → Edge
edge u v w = record { source = u; target = v; weight = w }

abbrev edges : List Edge
edges = edge 0 1 5 ∷ edge 1 2 3 ∷ []

path : IsPath edges 0 2 (5 ∷ 3 ∷ [])
path = (1, (0, omega arith, refl), (2, (1, omega arith, refl), refl))

-- a chain may pass an edge from its target to its source, and a rising one goes up
chain : IsChain edges 2 0 (1 ∷ 0 ∷ [])
chain = (refl, (refl, refl))

rising : IsRisingChain edges 0 2 (1 ∷ 2 ∷ [])
rising = (refl, omega arith, (refl, omega arith, refl))

-- the same by ids
abbrev id_edge : ℕ → ℕ → ℕ → IdEdge
id_edge a b w = record { source = a; target = b; weight = w }

abbrev id_edges : List IdEdge
id_edges = id_edge 4 7 5 ∷ id_edge 7 9 3 ∷ []

id_path : IsIdPath id_edges 4 9 (5 ∷ 3 ∷ [])
id_path = (7, (0, omega arith, refl), (9, (1, omega arith, refl), refl))

id_chain : IsIdChain id_edges 9 4 (7 ∷ 4 ∷ [])
id_chain = ((3, inr (1, omega arith, refl)), ((5, inr (0, omega arith, refl)), refl))

-- ---- how wide walks are

least_weight : width (5 ∷ 3 ∷ []) ≡ 3
least_weight = refl

no_weight : width [] ≡ TOP
no_weight = refl
