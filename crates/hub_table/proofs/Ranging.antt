-- What a range of vertices is, as it is kept, and where a vertex of a rising list stands.
use Rattle.std.proofs.Common.{◌≡◌, ℕ, ◌-◌, ◌<◌, ◌≤◌, ◌∙◌, List, length, get_or, sym, ap, subst, arith}
use Rattle.std.specs.Prelude.{IfSome, Option, Some, None}
use Rattle.std.specs.List.{range_with_len}
use Rattle.std.specs.List.Sorted.{IsStrictlyIncreasing}
use Rattle.std.proofs.lemmas.List.FromFn.{length-range_with_len, get_or-range_with_len}
use Rattle.px_base.specs.declared.TheConstants.{MOST_VERTICES}
use Rattle.px_base.specs.Values.{place_of}
use Rattle.hub_table.specs.declared.places.Kept.{Kept}
use Rattle.hub_table.specs.declared.places.Kept.TheVariants.{Range}
use Rattle.hub_table.specs.Kept.{vertices_in, IsKept}
use Rattle.px_base.proofs.Listed.{not_equal, place_is, rising_apart}

pub place_in_range : (low high v : ℕ) → low ≤ v → v < high → (v - low ≡ place_of (range_with_len low (high - low)) v) × (v - low < length (range_with_len low (high - low)))
place_in_range low high v from to =
    let inside : v - low < high - low = omega (arith, from, to) in
    let there : v - low < length (range_with_len low (high - low)) = omega (arith, inside, length-range_with_len low (high - low)) in (
      place_is (range_with_len low (high - low)) v (v - low) there
          (λ k below. not_equal (get_or (range_with_len low (high - low)) k 0) v (λ e. absurd (omega (arith, below, e, get_or-range_with_len low (high - low) k 0 (omega (arith, below, inside))))))
          (get_or-range_with_len low (high - low) (v - low) 0 inside ∙ omega (arith, from)),
      there,
    )

pub record IsRange (vertices : List ℕ) (low high : ℕ) : Type 0 where
  pub is : vertices ≡ range_with_len low (high - low)
  pub size : length vertices ≡ high - low
  pub order : low ≤ high
  pub few : high ≤ MOST_VERTICES

pub range_kept : (kept : Kept) (vertices : List ℕ) (low high : ℕ) → kept ≡ Range low high → IsKept kept → vertices_in kept ≡ vertices → IsRange vertices low high
range_kept kept vertices low high is holds view =
    let known : IsKept (Range low high) = subst IsKept is holds in
    let all : vertices ≡ range_with_len low (high - low) = sym view ∙ ap vertices_in is in
    record { is = all; size = ap length all ∙ length-range_with_len low (high - low); order = known.0; few = known.1 }

pub found_in_range : (low high v : ℕ) (r : Option ℕ) → IfSome r (λ at. (at ≡ v - low) × (low ≤ v) × (v < high)) →
    IfSome r (λ at. (at ≡ place_of (range_with_len low (high - low)) v) × (at < length (range_with_len low (high - low))))
found_in_range low high v None found = tt
found_in_range low high v (Some at) found = rw found.0 (place_in_range low high v found.1 found.2)

-- in a rising list a vertex stands at one place
pub place_by_rise : (vertices : List ℕ) (at v : ℕ) → IsStrictlyIncreasing vertices → at < length vertices → get_or vertices at 0 ≡ v → at ≡ place_of vertices v
place_by_rise vertices at v rising inside is = place_is vertices v at inside
    (λ k below. not_equal (get_or vertices k 0) v (λ e. absurd (omega (arith, e, is, rising_apart vertices rising k at below inside)))) is
