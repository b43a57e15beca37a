-- Pairs by rising vertex.
use Rattle.std.proofs.Common.{◌≡◌, ℕ, ◌+◌, ◌<◌, List, length, map, get_or, arith}
use Rattle.std.specs.List.{AllAdjacentBelow}
use Rattle.std.specs.List.Sorted.{IsStrictlyIncreasing}
use Rattle.std.proofs.lemmas.List.{get_or-map, length-map}
use Rattle.px_base.specs.declared.wire.Update.{Update}

vertex_at : (pairs : List Update) (k : ℕ) (d : Update) → k < length pairs → get_or (map (λ u. u.vertex) pairs) k 0 ≡ (get_or pairs k d).vertex
vertex_at pairs k d h = get_or-map (λ (u : Update). u.vertex) pairs k d 0 h

pub rises_from : (pairs : List Update) → AllAdjacentBelow (λ a b. a.vertex < b.vertex) pairs (length pairs) → IsStrictlyIncreasing (map (λ u. u.vertex) pairs)
rises_from pairs h = λ k l.
    let d : Update = record { vertex = 0; value = 0 } in
    let long : length (map (λ (u : Update). u.vertex) pairs) ≡ length pairs = length-map pairs (λ (u : Update). u.vertex) in
    let inside : k + 1 < length pairs = omega arith in
    let here = vertex_at pairs k d (omega arith) in
    let next = vertex_at pairs (k + 1) d inside in
    let less : (get_or pairs k d).vertex < (get_or pairs (k + 1) d).vertex = h k d inside in
    omega arith

pub adjacent_from : (pairs : List Update) → IsStrictlyIncreasing (map (λ u. u.vertex) pairs) → AllAdjacentBelow (λ a b. a.vertex < b.vertex) pairs (length pairs)
adjacent_from pairs h = λ k d l.
    let long : length (map (λ (u : Update). u.vertex) pairs) ≡ length pairs = length-map pairs (λ (u : Update). u.vertex) in
    let here = vertex_at pairs k d (omega arith) in
    let next = vertex_at pairs (k + 1) d l in
    let less = h k (omega arith) in
    omega arith
