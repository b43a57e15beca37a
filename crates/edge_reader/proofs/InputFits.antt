-- The edges of an input within the limits have a list within the limits.
use Rattle.std.proofs.Common.{◌≡◌, ℕ, zero, suc, ◌+◌, ◌-◌, ◌^◌, ◌<◌, ◌≤◌, Bool, true, false, List, [], ◌∷◌, length, take, refl, ap, ◌∙◌, subst, arith, inl, inr}
use Rattle.std.specs.Prelude.{nat_lt, slice_index, All, Contains, if◌then◌else◌, Option, Some, None, Result, Ok, Err}
use Rattle.std.specs.List.{AllByRecursion}
use Rattle.std.specs.List.Sorted.{IsStrictlyIncreasing}
use Rattle.std.proofs.lemmas.Bool.{ltb-false}
use Rattle.std.proofs.lemmas.List.{get_or_default, length-map}
use Rattle.std.proofs.lemmas.List.Elements.{All-cons, recursion_from_All}
use Rattle.px_base.specs.declared.TheConstants.{ID_LIMIT, MOST_EDGES, MOST_VERTICES}
use Rattle.px_base.specs.declared.graph.Edge.{Edge}
use Rattle.px_base.specs.declared.graph.EdgeList.{EdgeList}
use Rattle.px_base.specs.declared.number.NumberFault.{NumberFault}
use Rattle.px_base.specs.Text.{number_read}
use Rattle.px_base.specs.Lines.{EdgeListFits, IdEdge, IsEdgeListOf, Line, an_edge, bad_id, ends_of, fields_of, faulty, is_comment, line_of, lines_of, placed_edge, skipped, number_below, source_line, target_line, weighed_line, weight_of, without_return}
use Rattle.px_base.specs.Values.{IsWeight, place_of}
use Rattle.px_base.specs.Inputs.{InputFault, distinct_count, edges_within, ended_lines, input_limits, input_of, line_then, result_at_end, result_cut_short, room_after, too_many_vertices, with_edge}
use Rattle.px_base.proofs.Members.{first, later, mapped_from, of_member, of_members, which}
use Rattle.px_base.proofs.Numbers.{read_in_range}
use Rattle.edge_reader.proofs.DistinctIds.{distinct_is}
use Rattle.edge_reader.proofs.PlacedEnds.{place_is}

-- the ids and the weight of the edge are below 2 ^ 32
pub record IsSmall (e : IdEdge) : Type 0 where
  pub source : e.source < 2 ^ 32
  pub target : e.target < 2 ^ 32
  pub weight : e.weight < 2 ^ 32

-- both ends are vertices
abbrev pub IsBetween : ℕ → Edge → Type 0
IsBetween n e = (e.source < n) × (e.target < n)

-- both ends are vertices, and the weight is within its limit
abbrev IsInside : ℕ → Edge → Type 0
IsInside n e = (e.source < n) × (e.target < n) × IsWeight e.weight

-- ---- numbers

small_below : (field : List ℕ) (n : ℕ) → number_below (2 ^ 32) field ≡ Some n → n < 2 ^ 32
small_below field n is = by_read (number_read field (2 ^ 32 - 1)) refl is
  where
    by_read : (read : Result ℕ NumberFault) → number_read field (2 ^ 32 - 1) ≡ read → (elim read [ Ok m ↦ Some m | Err fault ↦ None ]) ≡ Some n → n < 2 ^ 32
    by_read (Err fault) e h = absurd (cc)
    by_read (Ok m) e h = (let same : m ≡ n = cc in omega (arith, same, read_in_range field (2 ^ 32 - 1) m e))

weight_below : (weighted : Bool) (fields : List (List ℕ)) (n : ℕ) → weight_of weighted fields ≡ Some n → n < 2 ^ 32
weight_below weighted [] n is = (let same : 1 ≡ n = cc in omega (arith, same))
weight_below true (field ∷ fields) n is = small_below field n is
weight_below false (field ∷ fields) n is = (let same : 1 ≡ n = cc in omega (arith, same))

-- ---- lines

weighed_small : (a b : ℕ) (weight : Option ℕ) (e : IdEdge) → a < 2 ^ 32 → b < 2 ^ 32 → ((w : ℕ) → weight ≡ Some w → w < 2 ^ 32) → weighed_line a b weight ≡ an_edge e → IsSmall e
weighed_small a b None e ha hb hw is = absurd (cc)
weighed_small a b (Some w) e ha hb hw is =
    let made : IdEdge = record { source = a; target = b; weight = w } in
    let same : made ≡ e = cc in
    subst IsSmall same (record { source = ha; target = hb; weight = hw w refl })

target_small : (weighted : Bool) (a : ℕ) (fields : List (List ℕ)) (e : IdEdge) → a < 2 ^ 32 → target_line weighted a fields ≡ an_edge e → IsSmall e
target_small weighted a [] e ha is = absurd (cc)
target_small weighted a (field ∷ fields) e ha is = by_target (number_below ID_LIMIT field) refl is
  where
    by_target : (o : Option ℕ) → number_below ID_LIMIT field ≡ o → (elim o [ Some b ↦ weighed_line a b (weight_of weighted fields) | None ↦ faulty bad_id ]) ≡ an_edge e → IsSmall e
    by_target None n h = absurd (cc)
    by_target (Some b) n h = weighed_small a b (weight_of weighted fields) e ha (small_below field b n) (weight_below weighted fields) h

source_small : (weighted : Bool) (fields : List (List ℕ)) (e : IdEdge) → source_line weighted fields ≡ an_edge e → IsSmall e
source_small weighted [] e is = absurd (cc)
source_small weighted (field ∷ fields) e is = by_source (number_below ID_LIMIT field) refl is
  where
    by_source : (o : Option ℕ) → number_below ID_LIMIT field ≡ o → (elim o [ Some a ↦ target_line weighted a fields | None ↦ faulty bad_id ]) ≡ an_edge e → IsSmall e
    by_source None n h = absurd (cc)
    by_source (Some a) n h = target_small weighted a fields e (small_below field a n) h

line_small : (weighted : Bool) (line : List ℕ) (e : IdEdge) → line_of weighted line ≡ an_edge e → IsSmall e
line_small weighted line e is = by_comment (is_comment line) is
  where
    by_comment : (b : Bool) → (if b then skipped else source_line weighted (fields_of (without_return line))) ≡ an_edge e → IsSmall e
    by_comment true h = absurd (cc)
    by_comment false h = source_small weighted (fields_of (without_return line)) e h

-- ---- all lines

-- there are at most so many edges, each of them small
record AreFew (room : ℕ) (edges : List IdEdge) : Type 0 where
  few : length edges ≤ room
  small : All IsSmall edges

one_more : (room : ℕ) (e : IdEdge) (rest : Result (List IdEdge) InputFault) (edges : List IdEdge) → IsSmall e →
    ((more : List IdEdge) → rest ≡ Ok more → AreFew (suc room - 1) more) → with_edge e rest ≡ Ok edges → AreFew (suc room) edges
one_more room e (Err fault) edges small more is = absurd (cc)
one_more room e (Ok others) edges small more is =
    let same : e ∷ others ≡ edges = cc in
    let rest : AreFew (suc room - 1) others = more others refl in
    subst (AreFew (suc room)) same (record { few = omega (arith, rest.few); small = All-cons IsSmall e others small rest.small })

within_few : (weighted : Bool) (n room : ℕ) (lines : List (List ℕ)) (edges : List IdEdge) → edges_within weighted n room lines ≡ Ok edges → AreFew room edges
within_few weighted n room [] edges is =
    let same : [] ≡ edges = cc in
    subst (AreFew room) same (record { few = omega arith; small = λ k d below. absurd (omega arith) })
within_few weighted n room (line ∷ lines) edges is =
    by_line room (line_of weighted line) refl (λ more. within_few weighted (n + 1) (room_after (line_of weighted line) room) lines more) is
  where
    by_line : (room : ℕ) (this : Line) → line_of weighted line ≡ this →
        ((more : List IdEdge) → edges_within weighted (n + 1) (room_after this room) lines ≡ Ok more → AreFew (room_after this room) more) →
        line_then n room this (edges_within weighted (n + 1) (room_after this room) lines) ≡ Ok edges → AreFew room edges
    by_line room skipped e more h = more edges h
    by_line room (faulty what) e more h = absurd (cc)
    by_line zero (an_edge x) e more h = absurd (cc)
    by_line (suc room) (an_edge x) e more h =
        one_more room x (edges_within weighted (n + 1) (suc room - 1) lines) edges (line_small weighted line x e) more h

-- ---- ends

ends_small : (edges : List IdEdge) (x : ℕ) → AllByRecursion IsSmall edges → Contains (ends_of edges) x → x < 2 ^ 32
ends_small [] x small (k, below, is) = absurd (omega (arith, below))
ends_small (e ∷ es) x small h = elim (which e.source (e.target ∷ ends_of es) x h) [
  | inl same ↦ omega (arith, same, small.0.source)
  | inr rest ↦ elim (which e.target (ends_of es) x rest) [
    | inl same ↦ omega (arith, same, small.0.target)
    | inr more ↦ ends_small es x small.1 more
  ]
]

-- both ends of an edge are ends
ends_listed : (edges : List IdEdge) (a : IdEdge) → Contains edges a → Contains (ends_of edges) a.source × Contains (ends_of edges) a.target
ends_listed [] a (k, below, is) = absurd (omega (arith, below))
ends_listed (e ∷ es) a h = elim (which e es a h) [
  | inl same ↦ (
    subst (λ (x : ℕ). Contains (ends_of (e ∷ es)) x) (ap (λ b. b.source) same) (first e.source (e.target ∷ ends_of es)),
    subst (λ (x : ℕ). Contains (ends_of (e ∷ es)) x) (ap (λ b. b.target) same) (later e.source (e.target ∷ ends_of es) e.target (first e.target (ends_of es))),
  )
  | inr rest ↦ (let found = ends_listed es a rest in (
    later e.source (e.target ∷ ends_of es) a.source (later e.target (ends_of es) a.source found.0),
    later e.source (e.target ∷ ends_of es) a.target (later e.target (ends_of es) a.target found.1),
  ))
]

place_inside : (ids : List ℕ) (x : ℕ) → IsStrictlyIncreasing ids → Contains ids x → place_of ids x < length ids
place_inside ids x rising (k, below, is) =
    let here : slice_index ids k ≡ x = get_or_default ids k 0 x below ∙ is in
    let at : k ≡ place_of ids x = place_is ids x k rising below here in
    omega (arith, at, below)

-- an edge by position is one by ids
edge_from : (edges : List IdEdge) (list : EdgeList) (e : Edge) → IsEdgeListOf edges list → Contains list.edges e → (a : IdEdge) × Contains edges a × (placed_edge list.ids a ≡ e)
edge_from edges list e of listed = mapped_from (placed_edge list.ids) edges e (subst (λ (l : List Edge). Contains l e) of.placed listed)

-- both ends of each edge are vertices
pub ends_below : (edges : List IdEdge) (list : EdgeList) → IsEdgeListOf edges list → All (IsBetween (length list.ids)) list.edges
ends_below edges list of = of_members (IsBetween (length list.ids)) list.edges (λ e listed.
    let from : (a : IdEdge) × Contains edges a × (placed_edge list.ids a ≡ e) = edge_from edges list e of listed in
    let ends = ends_listed edges from.0 from.1 in
    subst (IsBetween (length list.ids)) from.2 (
      place_inside list.ids from.0.source of.rising ((of.members from.0.source).1 ends.0),
      place_inside list.ids from.0.target of.rising ((of.members from.0.target).1 ends.1),
    ))

-- ---- the list

list_fits : (edges : List IdEdge) (list : EdgeList) → AreFew MOST_EDGES edges → distinct_count (ends_of edges) ≤ MOST_VERTICES → IsEdgeListOf edges list → EdgeListFits list
list_fits edges list are few of = record {
  vertices = omega (arith, few, distinct_is (ends_of edges) list.ids of.rising of.members);
  lines = omega (arith, are.few, ap length of.placed, length-map edges (placed_edge list.ids));
  ids = of_members (λ id. id < 2 ^ 32) list.ids (λ id listed. ends_small edges id small ((of.members id).0 listed));
  ends = of_members (IsInside (length list.ids)) list.edges (λ e listed.
      let from : (a : IdEdge) × Contains edges a × (placed_edge list.ids a ≡ e) = edge_from edges list e of listed in
      let both : IsBetween (length list.ids) e = of_member (IsBetween (length list.ids)) list.edges e (ends_below edges list of) listed in
      (both.0, both.1, subst (λ (x : Edge). IsWeight x.weight) from.2 (of_member IsSmall edges from.0 are.small from.1).weight));
}
  where
    small : AllByRecursion IsSmall edges
    small = recursion_from_All IsSmall edges are.small

pub input_fits : (weighted : Bool) (bytes : List ℕ) (edges : List IdEdge) (list : EdgeList) → input_of input_limits weighted bytes ≡ Ok edges → IsEdgeListOf edges list → EdgeListFits list
input_fits weighted bytes edges list is of = by_length (nat_lt input_limits.bytes (length bytes)) is
  where
    by_count : (many : Bool) (others : List IdEdge) → nat_lt input_limits.vertices (distinct_count (ends_of others)) ≡ many → AreFew MOST_EDGES others →
        (if many then Err too_many_vertices else Ok others) ≡ Ok edges → EdgeListFits list
    by_count true others e are h = absurd (cc)
    by_count false others e are h =
        let same : others ≡ edges = cc in
        list_fits edges list (subst (AreFew MOST_EDGES) same are) (rw same at (ltb-false input_limits.vertices (distinct_count (ends_of others)) e)) of

    at_end : (r : Result (List IdEdge) InputFault) → edges_within weighted 1 input_limits.edges (lines_of bytes) ≡ r → result_at_end input_limits.vertices r ≡ Ok edges → EdgeListFits list
    at_end (Err fault) e h = absurd (cc)
    at_end (Ok others) e h = by_count (nat_lt input_limits.vertices (distinct_count (ends_of others))) others refl (within_few weighted 1 input_limits.edges (lines_of bytes) others e) h

    cut_short : (r : Result (List IdEdge) InputFault) → result_cut_short r ≡ Ok edges → EdgeListFits list
    cut_short (Err fault) h = absurd (cc)
    cut_short (Ok others) h = absurd (cc)

    by_length : (long : Bool) → (if long
        then result_cut_short (edges_within weighted 1 input_limits.edges (ended_lines (take input_limits.bytes bytes)))
        else result_at_end input_limits.vertices (edges_within weighted 1 input_limits.edges (lines_of bytes))) ≡ Ok edges → EdgeListFits list
    by_length true h = cut_short (edges_within weighted 1 input_limits.edges (ended_lines (take input_limits.bytes bytes))) h
    by_length false h = at_end (edges_within weighted 1 input_limits.edges (lines_of bytes)) refl h
