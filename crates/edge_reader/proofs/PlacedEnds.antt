-- Ends of edges by the positions of their ids.
use Rattle.std.proofs.Common.{◌≡◌, ℕ, zero, suc, ◌+◌, ◌*◌, ◌<◌, List, [], ◌∷◌, length, map, refl, sym, ap, ◌∙◌, arith, get_or}
use Rattle.std.specs.Prelude.{◌==◌}
use Rattle.std.specs.List.Sorted.{IsStrictlyIncreasing}
use Rattle.std.proofs.lemmas.Bool.{eq-eqb, ne_eqb}
use Rattle.std.proofs.lemmas.List.{length-map, get_or-map, same_lists, get_or_default}
use Rattle.std.proofs.lemmas.List.Kept.{AllPairs-from_increasing}
use Rattle.std.proofs.lemmas.List.Sums.{position_or_len_is}
use Rattle.px_base.specs.declared.graph.Edge.{Edge}
use Rattle.px_base.specs.Values.{place_of, by_position}
use Rattle.px_base.specs.Lines.{IdEdge, ends_of, placed_edge}
use Rattle.px_base.proofs.Positions.{length_by_position, at_position}
use Rattle.edge_reader.specs.Places.{edge_at}

-- where a number stands in a rising list
pub place_is : (ids : List ℕ) (x p : ℕ) → IsStrictlyIncreasing ids → p < length ids → get_or ids p 0 ≡ x → p ≡ place_of ids x
place_is ids x p rising below is =
    sym (position_or_len_is (λ y. y == x) ids p 0 (omega arith)
    (λ k before. ne_eqb (get_or ids k 0) x (λ e. omega (arith, AllPairs-from_increasing ids rising k p 0 before below, is, e)))
    (λ here. eq-eqb (get_or ids p 0) x is))

-- positions at which the ids of the ends stand
pub placed_from : (ends places ids : List ℕ) → IsStrictlyIncreasing ids → length places ≡ length ends → ((k : ℕ) → k < length ends → (get_or places k 0 < length ids) × (get_or ids (get_or places k 0) 0 ≡ get_or ends k 0)) →
    places ≡ map (place_of ids) ends
placed_from ends places ids rising size each = same_lists places (map (place_of ids) ends) (size ∙ sym (length-map ends (place_of ids)))
    (λ k d below. let inside : k < length ends = omega arith in
    get_or_default places k d 0 below ∙ place_is ids (get_or ends k 0) (get_or places k 0) rising (each k inside).0 (each k inside).1 ∙ sym (get_or-map (place_of ids) ends k 0 d inside))

-- the ends of the edge at k
source_at : (edges : List IdEdge) (k : ℕ) (d : IdEdge) → k < length edges → get_or (ends_of edges) (2 * k) 0 ≡ (get_or edges k d).source
source_at [] k d below = absurd (omega arith)
source_at (e ∷ es) zero d below = refl
source_at (e ∷ es) (suc k) d below = let up : 2 * suc k ≡ suc (suc (2 * k)) = omega arith in ap (λ n. get_or (ends_of (e ∷ es)) n 0) up ∙ source_at es k d (omega arith)

target_at : (edges : List IdEdge) (k : ℕ) (d : IdEdge) → k < length edges → get_or (ends_of edges) (2 * k + 1) 0 ≡ (get_or edges k d).target
target_at [] k d below = absurd (omega arith)
target_at (e ∷ es) zero d below = refl
target_at (e ∷ es) (suc k) d below = let up : 2 * suc k + 1 ≡ suc (suc (2 * k + 1)) = omega arith in ap (λ n. get_or (ends_of (e ∷ es)) n 0) up ∙ target_at es k d (omega arith)

pub ends_length : (edges : List IdEdge) → length (ends_of edges) ≡ 2 * length edges
ends_length [] = refl
ends_length (e ∷ es) = omega (arith, ends_length es)

abbrev edge_of : ℕ → ℕ → ℕ → Edge
edge_of a b w = record { source = a; target = b; weight = w }

-- the edges by position, from the positions of all ends
pub edges_placed : (edges : List IdEdge) (places weights ids : List ℕ) → places ≡ map (place_of ids) (ends_of edges) → weights ≡ map (λ e. e.weight) edges →
    by_position (length weights) (edge_at places weights) ≡ map (placed_edge ids) edges
edges_placed edges places weights ids is heavy =
    let count : length weights ≡ length edges = ap length heavy ∙ length-map edges (λ e. e.weight) in
    same_lists (by_position (length weights) (edge_at places weights)) (map (placed_edge ids) edges)
    (length_by_position (length weights) (edge_at places weights) ∙ count ∙ sym (length-map edges (placed_edge ids)))
    (λ k d below. let inside : k < length edges = omega (arith, length_by_position (length weights) (edge_at places weights)) in
    let none : IdEdge = record { source = 0; target = 0; weight = 0 } in
    let e : IdEdge = get_or edges k none in
    let source : get_or places (2 * k) 0 ≡ place_of ids e.source = ap (λ l. get_or l (2 * k) 0) is ∙ get_or-map (place_of ids) (ends_of edges) (2 * k) 0 0 (omega (arith, ends_length edges)) ∙ ap (place_of ids) (source_at edges k none inside) in
    let target : get_or places (2 * k + 1) 0 ≡ place_of ids e.target = ap (λ l. get_or l (2 * k + 1) 0) is ∙ get_or-map (place_of ids) (ends_of edges) (2 * k + 1) 0 0 (omega (arith, ends_length edges)) ∙ ap (place_of ids) (target_at edges k none inside) in
    let weight : get_or weights k 0 ≡ e.weight = ap (λ l. get_or l k 0) heavy ∙ get_or-map (λ x. x.weight) edges k none 0 inside in
    at_position (length weights) (edge_at places weights) k d (omega arith)
    ∙ ap (λ a. edge_of a (get_or places (2 * k + 1) 0) (get_or weights k 0)) source ∙ ap (λ b. edge_of (place_of ids e.source) b (get_or weights k 0)) target ∙ ap (edge_of (place_of ids e.source) (place_of ids e.target)) weight ∙ sym (get_or-map (placed_edge ids) edges k (record { source = 0; target = 0; weight = 0 }) d inside))
