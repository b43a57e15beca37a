-- Edges have no list but one.
use Rattle.std.proofs.Common.{◌≡◌, ℕ, List, map, ap, sym, ◌∙◌}
use Rattle.std.proofs.lemmas.List.Kept.{AllPairs-from_increasing}
use Rattle.px_base.specs.declared.graph.Edge.{Edge}
use Rattle.px_base.specs.declared.graph.EdgeList.{EdgeList}
use Rattle.px_base.specs.Lines.{IdEdge, placed_edge, IsEdgeListOf}
use Rattle.px_base.proofs.Members.{same_members}

-- ---- the list of some edges

same_ids : (edges : List IdEdge) (a b : EdgeList) → IsEdgeListOf edges a → IsEdgeListOf edges b → a.ids ≡ b.ids
same_ids edges a b p q = same_members a.ids b.ids (AllPairs-from_increasing a.ids p.rising) (AllPairs-from_increasing b.ids q.rising)
    (λ u here. (q.members u).1 ((p.members u).0 here))
    (λ u here. (p.members u).1 ((q.members u).0 here))

abbrev list_of : List ℕ → List Edge → EdgeList
list_of ids edges = record { ids = ids; edges = edges }

-- edges have no list but one
pub one_list : (edges : List IdEdge) (a b : EdgeList) → IsEdgeListOf edges a → IsEdgeListOf edges b → a ≡ b
one_list edges a b p q =
    let ids : a.ids ≡ b.ids = same_ids edges a b p q in
    let places : a.edges ≡ b.edges = p.placed ∙ ap (λ l. map (placed_edge l) edges) ids ∙ sym q.placed in
    ap (λ l. list_of l a.edges) ids ∙ ap (list_of b.ids) places
