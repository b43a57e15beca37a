-- The walks through a graph are paths along the edges of its edge list.
use Rattle.std.proofs.Common.{◌≡◌, ℕ, suc, ◌<◌, Bool, true, false, not, ◌&&◌, ◌||◌, List, [], ◌∷◌, length, refl, sym, ap, ◌∙◌, subst, arith}
use Rattle.std.specs.Prelude.{◌==◌, ◌↔◌, All, Any}
use Rattle.std.specs.List.{list_any}
use Rattle.std.proofs.lemmas.Bool.{and_parts, eqb-true}
use Rattle.std.proofs.lemmas.Bool.Decides.{nat_tests}
use Rattle.std.proofs.lemmas.List.Folds.{Any-from_list_any}
use Rattle.px_base.specs.declared.graph.Edge.{Edge}
use Rattle.px_base.specs.declared.graph.Read.{Read}
use Rattle.px_base.specs.declared.graph.ReadGraph.{ReadGraph}
use Rattle.px_base.specs.declared.program.Form.TheVariants.{Given, Simple}
use Rattle.px_base.specs.declared.program.Rank.TheVariants.{ById}
use Rattle.px_base.specs.declared.program.Reads.TheVariants as reads_kind
use Rattle.px_base.specs.Graphs.{IsGraphOf, is_neighbour, joins}
use Rattle.px_base.proofs.Listed.{not_equal}
use Rattle.path_laws.specs.Paths.{IsChain, IsConnected, IsPath, IsRisingChain}
use Rattle.walk_terms.specs.Walks.{IsWalk, LeadsTo}
use Rattle.path_laws.proofs.Edges.{IsInside, earlier_neighbour, earlier_read, edge_with, given_edge, given_read, simple_neighbour, simple_read}
use Rattle.px_base.proofs.Members.{of_member}

-- ---- as given

walk_path : (n : ℕ) (edges : List Edge) (graph : ReadGraph) (u v : ℕ) (weights : List ℕ) → IsGraphOf Given reads_kind.All n edges graph →
    IsWalk graph.rows u v weights → IsPath edges u v weights
walk_path n edges graph u v [] is here = here
walk_path n edges graph u v (w ∷ weights) is (next, read, rest) =
    (next, given_edge n edges graph next u w is read, walk_path n edges graph next v weights is rest)

path_walk : (n : ℕ) (edges : List Edge) (graph : ReadGraph) (u v : ℕ) (weights : List ℕ) → All (IsInside n) edges → IsGraphOf Given reads_kind.All n edges graph →
    IsPath edges u v weights → IsWalk graph.rows u v weights
path_walk n edges graph u v [] ends is here = here
path_walk n edges graph u v (w ∷ weights) ends is (next, edge, rest) =
    let fits : IsInside n (edge_with u next w) = of_member (IsInside n) edges (edge_with u next w) ends edge in
    (next, given_read n edges graph next u w is fits.1 edge, path_walk n edges graph next v weights ends is rest)

pub walks_are_paths : (n : ℕ) (edges : List Edge) (graph : ReadGraph) (u v : ℕ) (weights : List ℕ) → All (IsInside n) edges →
    IsGraphOf Given reads_kind.All n edges graph → IsWalk graph.rows u v weights ↔ IsPath edges u v weights
walks_are_paths n edges graph u v weights ends is = (walk_path n edges graph u v weights is, path_walk n edges graph u v weights ends is)

-- ---- in the simple form

walk_chain : (n : ℕ) (edges : List Edge) (graph : ReadGraph) (u v : ℕ) (weights : List ℕ) → IsGraphOf Simple reads_kind.All n edges graph →
    IsWalk graph.rows u v weights → IsConnected edges u v
walk_chain n edges graph u v [] is here = ([], here)
walk_chain n edges graph u v (w ∷ weights) is (next, read, rest) =
    let near : is_neighbour edges next u ≡ true = (simple_neighbour n edges graph next u w is read).2 in
    let on : IsConnected edges next v = walk_chain n edges graph next v weights is rest in
    (next ∷ on.0, ((and_parts (not (u == next)) (list_any (joins u next) edges) near).1, on.1))

-- both ends that an edge joins are vertices
one_inside : (n u v s t : ℕ) → s < n → t < n → ((s == u && t == v) || (s == v && t == u)) ≡ true → u < n
one_inside n u v s t hs ht h = grind (arith, nat_tests)

other_inside : (n u v s t : ℕ) → s < n → t < n → ((s == u && t == v) || (s == v && t == u)) ≡ true → v < n
other_inside n u v s t hs ht h = grind (arith, nat_tests)

joined_inside : (n : ℕ) (edges : List Edge) (u v : ℕ) → All (IsInside n) edges → list_any (joins u v) edges ≡ true → (u < n) × (v < n)
joined_inside n edges u v ends joined =
    let found : Any (λ e. joins u v e ≡ true) edges = Any-from_list_any (joins u v) edges joined in
    let fits : IsInside n found.1 = of_member (IsInside n) edges found.1 ends (found.0, found.2, found.3) in
    (one_inside n u v found.1.source found.1.target fits.0 fits.1 found.4, other_inside n u v found.1.source found.1.target fits.0 fits.1 found.4)

-- an edge that joins two different ends is a read, and one that joins an end with itself leads nowhere else
step_on : (n : ℕ) (edges : List Edge) (graph : ReadGraph) (u next v : ℕ) (b : Bool) → (u == next) ≡ b → All (IsInside n) edges → IsGraphOf Simple reads_kind.All n edges graph →
    list_any (joins u next) edges ≡ true → LeadsTo graph.rows next v → LeadsTo graph.rows u v
step_on n edges graph u next v true same ends is joined on = subst (λ (a : ℕ). LeadsTo graph.rows a v) (sym (eqb-true u next same)) on
step_on n edges graph u next v false apart ends is joined on =
    let fits : (u < n) × (next < n) = joined_inside n edges u next ends joined in
    let near : is_neighbour edges next u ≡ true = ap (λ b. not b && list_any (joins u next) edges) apart ∙ joined in
    (1 ∷ on.0, (next, simple_read n edges graph next u is fits.0 fits.1 near, on.1))

chain_walk : (n : ℕ) (edges : List Edge) (graph : ReadGraph) (u v : ℕ) (vertices : List ℕ) → All (IsInside n) edges → IsGraphOf Simple reads_kind.All n edges graph →
    IsChain edges u v vertices → LeadsTo graph.rows u v
chain_walk n edges graph u v [] ends is here = ([], here)
chain_walk n edges graph u v (next ∷ vertices) ends is (joined, rest) =
    step_on n edges graph u next v (u == next) refl ends is joined (chain_walk n edges graph next v vertices ends is rest)

pub walks_are_chains : (n : ℕ) (edges : List Edge) (graph : ReadGraph) (u v : ℕ) → All (IsInside n) edges →
    IsGraphOf Simple reads_kind.All n edges graph → LeadsTo graph.rows u v ↔ IsConnected edges u v
walks_are_chains n edges graph u v ends is = (λ walk. walk_chain n edges graph u v walk.0 is walk.1, λ chain. chain_walk n edges graph u v chain.0 ends is chain.1)

-- ---- in the simple form, of vertices that stand before the reader

-- some rising chain of so many edges goes from u to v, and some walk of so many reads leads there
abbrev pub Climbs : List Edge → ℕ → ℕ → ℕ → Type 0
Climbs edges u v count = (vertices : List ℕ) × IsRisingChain edges u v vertices × (length vertices ≡ count)

abbrev pub LeadsIn : List (List Read) → ℕ → ℕ → ℕ → Type 0
LeadsIn rows u v count = (weights : List ℕ) × IsWalk rows u v weights × (length weights ≡ count)

pub walk_climbs : (n : ℕ) (edges : List Edge) (graph : ReadGraph) (u v : ℕ) (weights : List ℕ) → IsGraphOf Simple (reads_kind.Earlier ById) n edges graph →
    IsWalk graph.rows u v weights → Climbs edges u v (length weights)
walk_climbs n edges graph u v [] is here = ([], here, refl)
walk_climbs n edges graph u v (w ∷ weights) is (next, read, rest) =
    let known = earlier_neighbour n edges graph next u w is read in
    let on : Climbs edges next v (length weights) = walk_climbs n edges graph next v weights is rest in
    (next ∷ on.0, ((and_parts (not (u == next)) (list_any (joins u next) edges) known.2).1, known.3, on.1), ap suc on.2)

pub climb_leads : (n : ℕ) (edges : List Edge) (graph : ReadGraph) (u v : ℕ) (vertices : List ℕ) → All (IsInside n) edges → IsGraphOf Simple (reads_kind.Earlier ById) n edges graph →
    IsRisingChain edges u v vertices → LeadsIn graph.rows u v (length vertices)
climb_leads n edges graph u v [] ends is here = ([], here, refl)
climb_leads n edges graph u v (next ∷ vertices) ends is (joined, before, rest) =
    let fits : (u < n) × (next < n) = joined_inside n edges u next ends joined in
    let apart : (u == next) ≡ false = not_equal u next (λ same. absurd (omega (arith, before, same))) in
    let near : is_neighbour edges next u ≡ true = ap (λ b. not b && list_any (joins u next) edges) apart ∙ joined in
    let on : LeadsIn graph.rows next v (length vertices) = climb_leads n edges graph next v vertices ends is rest in
    (1 ∷ on.0, (next, earlier_read n edges graph next u is before fits.1 near, on.1), ap suc on.2)
