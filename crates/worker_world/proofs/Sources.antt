-- The sources of a row, without the weights.
use Rattle.std.proofs.Common.{◌≡◌, ℕ, ◌<◌, List, [], ◌∷◌, length, get_or, map, refl, ap, arith}
use Rattle.std.specs.Prelude.{All, slice_index}
use Rattle.std.proofs.lemmas.List.{get_or-map, length-map}
use Rattle.std.proofs.lemmas.List.Elements.{All-map}
use Rattle.px_base.specs.declared.graph.Read.{Read}
use Rattle.worker_world.specs.Placed.{read_items}

-- what holds of the source of each read holds of all sources
pub all_sources : (P : ℕ → Type 0) (row : List Read) (sources : List ℕ) → sources ≡ map (λ (r : Read). r.source) row → All (λ (r : Read). P r.source) row → All P sources
all_sources P row sources is all = rw is (All-map P (λ (r : Read). r.source) row all)

pub each_source : (P : ℕ → Type 0) (row : List Read) (sources : List ℕ) → sources ≡ map (λ (r : Read). r.source) row → All P sources → All (λ (r : Read). P r.source) row
each_source P row sources is all k d inside =
    let here : k < length (map (λ (r : Read). r.source) row) = omega (arith, inside, length-map row (λ (r : Read). r.source)) in
    let at : get_or (map (λ (r : Read). r.source) row) k 0 ≡ (get_or row k d).source = get_or-map (λ (r : Read). r.source) row k d 0 inside in
    rw at at ((rw is at all) k 0 here)

-- what values become that don't ask for the weight
pub source_items : (rule : ℕ → ℕ) (values : List ℕ) (row : List Read) (sources : List ℕ) → sources ≡ map (λ (r : Read). r.source) row → map (λ s. rule (slice_index values s)) sources ≡ read_items (λ x w. rule x) values row
source_items rule values row sources is = rw is (by_row row)
  where
    by_row : (row : List Read) → map (λ s. rule (slice_index values s)) (map (λ (r : Read). r.source) row) ≡ read_items (λ x w. rule x) values row
    by_row [] = refl
    by_row (r ∷ row) = ap (λ items. rule (slice_index values r.source) ∷ items) (by_row row)
