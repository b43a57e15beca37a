-- The edge list of all lines says what they say.
use Rattle.std.proofs.Common.{◌≡◌, ℕ, ◌+◌, ◌*◌, ◌<◌, ◌≤◌, ◌^◌, List, [], ◌++◌, length, map, take, drop, append-nil, refl, sym, ap, ◌∙◌, subst, arith, get_or}
use Rattle.std.specs.Prelude.{Ok, Err, Contains, ◌↔◌}
use Rattle.std.proofs.lemmas.Bool.{le-ltb, lt-ltb}
use Rattle.std.proofs.lemmas.List.{get_or-map, length-map, get_or_default, drop_all, take_all}
use Rattle.px_base.specs.declared.TheConstants.{MOST_EDGES, MOST_VERTICES}
use Rattle.px_base.specs.declared.graph.Edge.{Edge}
use Rattle.px_base.specs.declared.graph.EdgeList.{EdgeList}
use Rattle.px_base.specs.Values.{place_of, by_position, IsWeight}
use Rattle.px_base.specs.Lines.{IdEdge, ends_of, EdgeListFits}
use Rattle.px_base.specs.Inputs.{distinct_count, input_limits, result_at_end, too_many_vertices}
use Rattle.px_base.proofs.Positions.{length_by_position, at_position}
use Rattle.edge_reader.specs.Places.{ArePlaced, edge_at}
use Rattle.edge_reader.specs.Readings.{Says}
use Rattle.edge_reader.proofs.DistinctIds.{distinct_is}
use Rattle.edge_reader.proofs.PlacedEnds.{edges_placed, place_is}

-- the edge list of these parts
abbrev pub list_of : List ℕ → List ℕ → List ℕ → EdgeList
list_of ids places weights = record { ids = ids; edges = by_position (length weights) (edge_at places weights) }

count_is : (edges : List IdEdge) (ends places ids : List ℕ) → ArePlaced ends places ids → ends ≡ ends_of edges → distinct_count (ends_of edges) ≡ length ids
count_is edges ends places ids a is = ap distinct_count (sym is) ∙ distinct_is ends ids a.rising a.members

at_end : (edges : List IdEdge) → distinct_count (ends_of edges) ≤ input_limits.vertices → result_at_end input_limits.vertices (Ok edges) ≡ Ok edges
at_end edges few = rw (le-ltb input_limits.vertices (distinct_count (ends_of edges)) few) refl

pub says_list : (edges : List IdEdge) (ends places weights ids : List ℕ) → ArePlaced ends places ids → ends ≡ ends_of edges → weights ≡ map (λ e. e.weight) edges → length ids ≤ input_limits.vertices →
    Says (Ok (list_of ids places weights)) (result_at_end input_limits.vertices (Ok edges))
says_list edges ends places weights ids a is heavy few = (
  edges,
  at_end edges (omega (arith, count_is edges ends places ids a is)),
  record {
    rising = a.rising;
    members = λ id. subst (λ l. Contains ids id ↔ Contains l id) is (a.members id);
    placed = edges_placed edges places weights ids (a.placed ∙ ap (map (place_of ids)) is) heavy;
  },
)

pub says_many : (edges : List IdEdge) (ends places ids : List ℕ) → ArePlaced ends places ids → ends ≡ ends_of edges → input_limits.vertices < length ids → result_at_end input_limits.vertices (Ok edges) ≡ Err too_many_vertices
says_many edges ends places ids a is many = rw (lt-ltb input_limits.vertices (distinct_count (ends_of edges)) (omega (arith, count_is edges ends places ids a is))) refl

-- ---- limits

place_inside : (ends places ids : List ℕ) (n : ℕ) → ArePlaced ends places ids → n < length ends → get_or places n 0 < length ids
place_inside ends places ids n a below =
    let x : ℕ = get_or ends n 0 in
    let found : Contains ids x = (a.members x).1 (n, below, get_or_default ends n x 0 below) in
    let at : found.0 ≡ place_of ids x = place_is ids x found.0 a.rising found.1 (get_or_default ids found.0 0 x found.1 ∙ found.2) in
    let is : get_or places n 0 ≡ place_of ids x = ap (λ l. get_or l n 0) a.placed ∙ get_or-map (place_of ids) ends n 0 0 below in
    omega (arith, found.1)

pub list_fits : (ends places weights ids : List ℕ) → ArePlaced ends places ids → ((k : ℕ) → get_or ends k 0 < 2 ^ 32) → ((k : ℕ) → get_or weights k 0 < 2 ^ 32) → length weights ≤ MOST_EDGES → length ends ≡ 2 * length weights → length ids ≤ MOST_VERTICES →
    EdgeListFits (list_of ids places weights)
list_fits ends places weights ids a small light few both room = record {
  vertices = room;
  lines = omega (arith, length_by_position (length weights) (edge_at places weights));
  ids = λ k d below.
      (let from : Contains ends (get_or ids k d) = (a.members (get_or ids k d)).0 (k, below, get_or_default ids k (get_or ids k d) d below) in
      let is : get_or ends from.0 0 ≡ get_or ids k d = get_or_default ends from.0 0 (get_or ids k d) from.1 ∙ from.2 in
      omega (arith, small from.0));
  ends = λ k d below.
      (let inside : k < length weights = omega (arith, length_by_position (length weights) (edge_at places weights)) in
      subst (λ e. (e.source < length ids) × (e.target < length ids) × IsWeight e.weight) (sym (at_position (length weights) (edge_at places weights) k d inside))
      (place_inside ends places ids (2 * k) a (omega arith), place_inside ends places ids (2 * k + 1) a (omega arith), light k));
}

-- ---- a slice that was lent

lent_back : (new old : List ℕ) (n : ℕ) → length new ≡ length old → n ≡ length old → take n (new ++ drop (length new) old) ≡ new
lent_back new old n same all =
    let none : drop (length new) old ≡ [] = drop_all (length new) old (omega arith) in
    ap (λ l. take n (new ++ l)) none ∙ ap (take n) (append-nil new) ∙ take_all n new (omega arith)

pub places_back : (ends places ids slice : List ℕ) (n : ℕ) → ArePlaced ends places ids → n ≡ length ends → slice ≡ take n (places ++ drop (length places) ends) → slice ≡ places
places_back ends places ids slice n a all is = is ∙ lent_back places ends n (ap length a.placed ∙ length-map ends (place_of ids)) all

abbrev pub record_of : List ℕ → List Edge → EdgeList
record_of ids edges = record { ids = ids; edges = edges }

pub made_list : (ids places weights made_ids : List ℕ) (made : List Edge) (slice heavy : List ℕ) → made_ids ≡ ids → made ≡ by_position (length heavy) (edge_at slice heavy) → slice ≡ places → heavy ≡ weights →
    record_of made_ids made ≡ list_of ids places weights
made_list ids places weights made_ids made slice heavy p q r s = ap (λ l. record_of l made) p ∙ ap (record_of ids) (q ∙ ap (λ l. by_position (length heavy) (edge_at l heavy)) r ∙ ap (λ l. by_position (length l) (edge_at places l)) s)
