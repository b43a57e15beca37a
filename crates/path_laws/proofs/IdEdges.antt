-- Paths and chains by position are those by ids.
use Rattle.std.proofs.Common.{◌≡◌, ℕ, suc, ◌<◌, Bool, true, false, ◌&&◌, ◌||◌, List, [], ◌∷◌, length, refl, sym, ap, ◌∙◌, subst, arith, inl, inr}
use Rattle.std.specs.Prelude.{◌==◌, ◌↔◌, ◌⊎◌, Any, Contains, slice_index}
use Rattle.std.specs.List.{list_any}
use Rattle.std.specs.List.Sorted.{IsStrictlyIncreasing}
use Rattle.std.proofs.lemmas.Bool.{and_parts, cases_lt, eqb-true}
use Rattle.std.proofs.lemmas.Bool.Decides.{nat_tests}
use Rattle.std.proofs.lemmas.List.Folds.{Any-from_list_any, list_any_at}
use Rattle.std.proofs.lemmas.List.Sums.{passes_at_first}
use Rattle.px_base.specs.declared.graph.Edge.{Edge}
use Rattle.px_base.specs.declared.graph.EdgeList.{EdgeList}
use Rattle.px_base.specs.Values.{is_listed, place_of}
use Rattle.px_base.specs.Graphs.{joins}
use Rattle.px_base.specs.Lines.{EdgeListFits, IdEdge, IsEdgeListOf, placed_edge}
use Rattle.px_base.specs.Starts.{positions_of}
use Rattle.px_base.proofs.Listed.{rising_apart}
use Rattle.value_laws.specs.GatherLaws.{among}
use Rattle.path_laws.specs.ByIds.{AreConnected, AreJoined, IsIdChain, IsIdPath, IsIdRise, IsIdSourcePath}
use Rattle.path_laws.specs.Paths.{IsChain, IsConnected, IsPath, IsRisingChain, IsSourcePath}
use Rattle.path_laws.proofs.Edges.{IsInside, edge_with}
use Rattle.px_base.proofs.Members.{listed_contains, mapped, mapped_from, of_member}
use Rattle.edge_reader.proofs.PlacedEnds.{place_is}

abbrev id_edge : ℕ → ℕ → ℕ → IdEdge
id_edge a b w = record { source = a; target = b; weight = w }

-- ---- places of ids

pub at_place : (ids : List ℕ) (a : ℕ) → place_of ids a < length ids → slice_index ids (place_of ids a) ≡ a
at_place ids a below = eqb-true (slice_index ids (place_of ids a)) a (passes_at_first (λ y. y == a) ids 0 below)

pub place_at : (ids : List ℕ) (u : ℕ) → IsStrictlyIncreasing ids → u < length ids → place_of ids (slice_index ids u) ≡ u
place_at ids u rising below = sym (place_is ids (slice_index ids u) u rising below refl)

-- ---- edges

by_ids : (edges : List IdEdge) (list : EdgeList) (u v w : ℕ) → IsEdgeListOf edges list → u < length list.ids → v < length list.ids →
    Contains list.edges (edge_with u v w) → Contains edges (id_edge (slice_index list.ids u) (slice_index list.ids v) w)
by_ids edges list u v w of hu hv edge =
    let from : (e : IdEdge) × Contains edges e × (placed_edge list.ids e ≡ edge_with u v w) =
    mapped_from (placed_edge list.ids) edges (edge_with u v w) (subst (λ (l : List Edge). Contains l (edge_with u v w)) of.placed edge) in
    let source : place_of list.ids from.0.source ≡ u = ap (λ e. e.source) from.2 in
    let target : place_of list.ids from.0.target ≡ v = ap (λ e. e.target) from.2 in
    let weight : from.0.weight ≡ w = ap (λ e. e.weight) from.2 in
    let a : from.0.source ≡ slice_index list.ids u = sym (at_place list.ids from.0.source (omega (arith, source, hu))) ∙ ap (slice_index list.ids) source in
    let b : from.0.target ≡ slice_index list.ids v = sym (at_place list.ids from.0.target (omega (arith, target, hv))) ∙ ap (slice_index list.ids) target in
    let same : from.0 ≡ id_edge (slice_index list.ids u) (slice_index list.ids v) w =
    ap (λ s. id_edge s from.0.target from.0.weight) a ∙ ap (λ t. id_edge (slice_index list.ids u) t from.0.weight) b ∙ ap (id_edge (slice_index list.ids u) (slice_index list.ids v)) weight in
    subst (λ (e : IdEdge). Contains edges e) same from.1

by_places : (edges : List IdEdge) (list : EdgeList) (a b w : ℕ) → IsEdgeListOf edges list → Contains edges (id_edge a b w) →
    Contains list.edges (edge_with (place_of list.ids a) (place_of list.ids b) w)
by_places edges list a b w of edge =
    subst (λ (l : List Edge). Contains l (edge_with (place_of list.ids a) (place_of list.ids b) w)) (sym of.placed) (mapped (placed_edge list.ids) edges (id_edge a b w) edge)

inside_of : (list : EdgeList) (u v w : ℕ) → EdgeListFits list → Contains list.edges (edge_with u v w) → IsInside (length list.ids) (edge_with u v w)
inside_of list u v w fits edge = of_member (IsInside (length list.ids)) list.edges (edge_with u v w) fits.ends edge

-- ---- paths

path_by_ids : (edges : List IdEdge) (list : EdgeList) (u v : ℕ) (weights : List ℕ) → IsEdgeListOf edges list → EdgeListFits list →
    IsPath list.edges u v weights → IsIdPath edges (slice_index list.ids u) (slice_index list.ids v) weights
path_by_ids edges list u v [] of fits here = ap (slice_index list.ids) here
path_by_ids edges list u v (w ∷ weights) of fits (next, edge, rest) =
    let inside : IsInside (length list.ids) (edge_with u next w) = inside_of list u next w fits edge in
    (slice_index list.ids next, by_ids edges list u next w of inside.0 inside.1 edge, path_by_ids edges list next v weights of fits rest)

path_by_places : (edges : List IdEdge) (list : EdgeList) (a b : ℕ) (weights : List ℕ) → IsEdgeListOf edges list → IsIdPath edges a b weights →
    IsPath list.edges (place_of list.ids a) (place_of list.ids b) weights
path_by_places edges list a b [] of here = ap (place_of list.ids) here
path_by_places edges list a b (w ∷ weights) of (next, edge, rest) =
    (place_of list.ids next, by_places edges list a next w of edge, path_by_places edges list next b weights of rest)

begins_inside : (list : EdgeList) (u v : ℕ) (weights : List ℕ) → EdgeListFits list → v < length list.ids → IsPath list.edges u v weights → u < length list.ids
begins_inside list u v [] fits inside here = subst (λ (a : ℕ). a < length list.ids) (sym here) inside
begins_inside list u v (w ∷ weights) fits inside (next, edge, rest) = (inside_of list u next w fits edge).0

-- a source by position is one by its id
source_by_id : (ids sources : List ℕ) (u : ℕ) → u < length ids → is_listed (positions_of ids sources) u ≡ true → is_listed sources (slice_index ids u) ≡ true
source_by_id ids sources u inside listed =
    let from : (a : ℕ) × Contains sources a × (place_of ids a ≡ u) = mapped_from (place_of ids) sources u (listed_contains (positions_of ids sources) u listed) in
    let same : from.0 ≡ slice_index ids u = sym (at_place ids from.0 (omega (arith, from.2, inside))) ∙ ap (slice_index ids) from.2 in
    among sources (slice_index ids u) (subst (λ (a : ℕ). Contains sources a) same from.1)

source_by_place : (ids sources : List ℕ) (a : ℕ) → is_listed sources a ≡ true → is_listed (positions_of ids sources) (place_of ids a) ≡ true
source_by_place ids sources a listed = among (positions_of ids sources) (place_of ids a) (mapped (place_of ids) sources a (listed_contains sources a listed))

pub source_paths : (edges : List IdEdge) (list : EdgeList) (sources : List ℕ) (v : ℕ) (weights : List ℕ) → IsEdgeListOf edges list → EdgeListFits list → v < length list.ids →
    IsSourcePath list.edges (positions_of list.ids sources) v weights ↔ IsIdSourcePath edges sources (slice_index list.ids v) weights
source_paths edges list sources v weights of fits inside = (
  λ a. (slice_index list.ids a.0, source_by_id list.ids sources a.0 (begins_inside list a.0 v weights fits inside a.2) a.1, path_by_ids edges list a.0 v weights of fits a.2),
  λ b. (
    place_of list.ids b.0,
    source_by_place list.ids sources b.0 b.1,
    subst (λ (t : ℕ). IsPath list.edges (place_of list.ids b.0) t weights) (place_at list.ids v of.rising inside) (path_by_places edges list b.0 (slice_index list.ids v) weights of b.2),
  ),
)

-- ---- chains

one_of : (b c : Bool) → (b || c) ≡ true → (b ≡ true) ⊎ (c ≡ true)
one_of true c h = inl refl
one_of false c h = inr h

edge_is : (e : Edge) (u v : ℕ) → (e.source == u && e.target == v) ≡ true → e ≡ edge_with u v e.weight
edge_is e u v h =
    let both = and_parts (e.source == u) (e.target == v) h in
    ap (λ s. edge_with s e.target e.weight) (eqb-true e.source u both.0) ∙ ap (λ t. edge_with u t e.weight) (eqb-true e.target v both.1)

-- what it is that two positions are joined
joining : (edges : List Edge) (u v : ℕ) → list_any (joins u v) edges ≡ true → (w : ℕ) × (Contains edges (edge_with u v w) ⊎ Contains edges (edge_with v u w))
joining edges u v joined =
    let found : Any (λ e. joins u v e ≡ true) edges = Any-from_list_any (joins u v) edges joined in
    let e : Edge = found.1 in (
      e.weight,
      elim (one_of (e.source == u && e.target == v) (e.source == v && e.target == u) found.4) [
        | inl to ↦ inl (subst (λ (x : Edge). Contains edges x) (edge_is e u v to) (found.0, found.2, found.3))
        | inr back ↦ inr (subst (λ (x : Edge). Contains edges x) (edge_is e v u back) (found.0, found.2, found.3))
      ],
    )

joins_to : (u v w : ℕ) → joins u v (edge_with u v w) ≡ true
joins_to u v w = grind (arith, nat_tests)

joins_back : (u v w : ℕ) → joins u v (edge_with v u w) ≡ true
joins_back u v w = grind (arith, nat_tests)

joined : (edges : List Edge) (u v w : ℕ) → Contains edges (edge_with u v w) ⊎ Contains edges (edge_with v u w) → list_any (joins u v) edges ≡ true
joined edges u v w (inl (k, below, is)) = list_any_at (joins u v) edges k (edge_with u v w) below (ap (joins u v) is ∙ joins_to u v w)
joined edges u v w (inr (k, below, is)) = list_any_at (joins u v) edges k (edge_with v u w) below (ap (joins u v) is ∙ joins_back u v w)

-- joined positions have ids that are joined, and stand in the graph
record AreJoinedInside (edges : List IdEdge) (list : EdgeList) (u v : ℕ) : Type 0 where
  one : u < length list.ids
  other : v < length list.ids
  ids : AreJoined edges (slice_index list.ids u) (slice_index list.ids v)

join_by_ids : (edges : List IdEdge) (list : EdgeList) (u v : ℕ) → IsEdgeListOf edges list → EdgeListFits list → list_any (joins u v) list.edges ≡ true → AreJoinedInside edges list u v
join_by_ids edges list u v of fits joins_them =
    let found = joining list.edges u v joins_them in
    elim found.1 [
      | inl edge ↦ (let inside : IsInside (length list.ids) (edge_with u v found.0) = inside_of list u v found.0 fits edge in
          record { one = inside.0; other = inside.1; ids = (found.0, inl (by_ids edges list u v found.0 of inside.0 inside.1 edge)) })
      | inr edge ↦ (let inside : IsInside (length list.ids) (edge_with v u found.0) = inside_of list v u found.0 fits edge in
          record { one = inside.1; other = inside.0; ids = (found.0, inr (by_ids edges list v u found.0 of inside.0 inside.1 edge)) })
    ]

-- joined ids have positions that are joined, and stand in the graph
record AreJoinedAt (list : EdgeList) (a b : ℕ) : Type 0 where
  one : place_of list.ids a < length list.ids
  other : place_of list.ids b < length list.ids
  places : list_any (joins (place_of list.ids a) (place_of list.ids b)) list.edges ≡ true

join_by_places : (edges : List IdEdge) (list : EdgeList) (a b : ℕ) → IsEdgeListOf edges list → EdgeListFits list → AreJoined edges a b → AreJoinedAt list a b
join_by_places edges list a b of fits (w, inl edge) =
    let placed : Contains list.edges (edge_with (place_of list.ids a) (place_of list.ids b) w) = by_places edges list a b w of edge in
    let inside : IsInside (length list.ids) (edge_with (place_of list.ids a) (place_of list.ids b) w) = inside_of list (place_of list.ids a) (place_of list.ids b) w fits placed in
    record { one = inside.0; other = inside.1; places = joined list.edges (place_of list.ids a) (place_of list.ids b) w (inl placed) }
join_by_places edges list a b of fits (w, inr edge) =
    let placed : Contains list.edges (edge_with (place_of list.ids b) (place_of list.ids a) w) = by_places edges list b a w of edge in
    let inside : IsInside (length list.ids) (edge_with (place_of list.ids b) (place_of list.ids a) w) = inside_of list (place_of list.ids b) (place_of list.ids a) w fits placed in
    record { one = inside.1; other = inside.0; places = joined list.edges (place_of list.ids a) (place_of list.ids b) w (inr placed) }

pub chain_by_ids : (edges : List IdEdge) (list : EdgeList) (u v : ℕ) (vertices : List ℕ) → IsEdgeListOf edges list → EdgeListFits list →
    IsChain list.edges u v vertices → AreConnected edges (slice_index list.ids u) (slice_index list.ids v)
chain_by_ids edges list u v [] of fits here = ([], ap (slice_index list.ids) here)
chain_by_ids edges list u v (next ∷ vertices) of fits (step, rest) =
    let on : AreConnected edges (slice_index list.ids next) (slice_index list.ids v) = chain_by_ids edges list next v vertices of fits rest in
    (slice_index list.ids next ∷ on.0, ((join_by_ids edges list u next of fits step).ids, on.1))

-- a chain of ids that ends in the graph begins there, and is one of positions
pub record IsPlacedChain (list : EdgeList) (a b : ℕ) : Type 0 where
  pub begins : place_of list.ids a < length list.ids
  pub connected : IsConnected list.edges (place_of list.ids a) (place_of list.ids b)

pub chain_by_places : (edges : List IdEdge) (list : EdgeList) (a b : ℕ) (ids : List ℕ) → IsEdgeListOf edges list → EdgeListFits list → place_of list.ids b < length list.ids →
    IsIdChain edges a b ids → IsPlacedChain list a b
chain_by_places edges list a b [] of fits inside here =
    record { begins = subst (λ (c : ℕ). place_of list.ids c < length list.ids) (sym here) inside; connected = ([], ap (place_of list.ids) here) }
chain_by_places edges list a b (next ∷ ids) of fits inside (step, rest) =
    let on : IsPlacedChain list next b = chain_by_places edges list next b ids of fits inside rest in
    let joins_them : AreJoinedAt list a next = join_by_places edges list a next of fits step in
    record { begins = joins_them.one; connected = (place_of list.ids next ∷ on.connected.0, (joins_them.places, on.connected.1)) }

-- ---- chains that go up

pub rise_by_ids : (edges : List IdEdge) (list : EdgeList) (u v : ℕ) (vertices : List ℕ) → IsEdgeListOf edges list → EdgeListFits list →
    IsRisingChain list.edges u v vertices → (ids : List ℕ) × IsIdRise edges (slice_index list.ids u) (slice_index list.ids v) ids × (length ids ≡ length vertices)
rise_by_ids edges list u v [] of fits here = ([], ap (slice_index list.ids) here, refl)
rise_by_ids edges list u v (next ∷ vertices) of fits (step, before, rest) =
    let joins_them : AreJoinedInside edges list u next = join_by_ids edges list u next of fits step in
    let on = rise_by_ids edges list next v vertices of fits rest in
    (slice_index list.ids next ∷ on.0, (joins_them.ids, rising_apart list.ids of.rising u next before joins_them.other, on.1), ap suc on.2)

-- the lower one of two ids of the graph stands first
stands_first : (list : EdgeList) (a b : ℕ) → IsStrictlyIncreasing list.ids → place_of list.ids a < length list.ids → place_of list.ids b < length list.ids → a < b →
    place_of list.ids a < place_of list.ids b
stands_first list a b rising ha hb low = elim (cases_lt (place_of list.ids a) (place_of list.ids b)) [
  | inl before ↦ before
  | inr after ↦ elim (cases_lt (place_of list.ids b) (place_of list.ids a)) [
    | inl back ↦ absurd (omega (arith, rising_apart list.ids rising (place_of list.ids b) (place_of list.ids a) back ha, at_place list.ids a ha, at_place list.ids b hb, low))
    | inr here ↦ (let same : place_of list.ids a ≡ place_of list.ids b = omega (arith, after, here) in
        absurd (omega (arith, ap (slice_index list.ids) same, at_place list.ids a ha, at_place list.ids b hb, low)))
  ]
]

pub rise_by_places : (edges : List IdEdge) (list : EdgeList) (a b : ℕ) (ids : List ℕ) → IsEdgeListOf edges list → EdgeListFits list →
    IsIdRise edges a b ids → (vertices : List ℕ) × IsRisingChain list.edges (place_of list.ids a) (place_of list.ids b) vertices × (length vertices ≡ length ids)
rise_by_places edges list a b [] of fits here = ([], ap (place_of list.ids) here, refl)
rise_by_places edges list a b (next ∷ ids) of fits (step, low, rest) =
    let joins_them : AreJoinedAt list a next = join_by_places edges list a next of fits step in
    let on = rise_by_places edges list next b ids of fits rest in
    (place_of list.ids next ∷ on.0, (joins_them.places, stands_first list a next of.rising joins_them.one joins_them.other low, on.1), ap suc on.2)
