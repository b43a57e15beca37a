-- The routes of a graph on its cuts rise, and name its parts.
use Rattle.std.proofs.Common.{ℕ, ◌<◌, List, length, arith}
use Rattle.std.specs.Prelude.{All}
use Rattle.std.specs.List.Sorted.{IsStrictlyIncreasing}
use Rattle.std.proofs.lemmas.List.Elements.{All-filter}
use Rattle.std.proofs.lemmas.List.Kept.{IsStrictlyIncreasing-filter}
use Rattle.std.proofs.lemmas.List.FromFn.{length-range_with_len, get_or-range_with_len}
use Rattle.px_base.specs.declared.graph.Read.{Read}
use Rattle.px_base.specs.Values.{by_position, positions_below}
use Rattle.px_base.specs.Parts.{is_mirror, part_count, route_of, routes_of}
use Rattle.px_base.proofs.Positions.{at_position, length_by_position}
use Rattle.px_base.proofs.Members.{range_rises}
use Rattle.list_laws.specs.Routes.{AreRoutes}

-- what holds of the entry of each position holds of all entries
each_entry : {X : Type 0} (P : X → Type 0) (n : ℕ) (f : ℕ → X) → ((v : ℕ) → v < n → P (f v)) → All P (by_position n f)
each_entry P n f each k d inside = let low : k < n = omega (arith, inside, length_by_position n f) in rw (at_position n f k d low) (each k low)

-- the first n positions are below n
pub each_below : (n : ℕ) → All (λ j. j < n) (positions_below n)
each_below n k d inside = let low : k < n = omega (arith, inside, length-range_with_len 0 n) in rw (get_or-range_with_len 0 n k d low) (omega arith)

pub routes_fit : (rows : List (List Read)) (cuts : List ℕ) → AreRoutes (part_count cuts) (routes_of rows cuts)
routes_fit rows cuts = record {
  rises = each_entry IsStrictlyIncreasing (length rows) (route_of rows cuts)
      (λ v inside. IsStrictlyIncreasing-filter (λ j. is_mirror rows cuts j v) (positions_below (part_count cuts)) (range_rises 0 (part_count cuts)));
  within = each_entry (λ route. All (λ j. j < part_count cuts) route) (length rows) (route_of rows cuts)
      (λ v inside. All-filter (λ j. is_mirror rows cuts j v) (λ j. j < part_count cuts) (positions_below (part_count cuts)) (each_below (part_count cuts)));
}
