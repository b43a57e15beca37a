-- The lists of vertices, and what stands in them.
use Rattle.std.proofs.Common.{◌≡◌, ℕ, ◌+◌, ◌-◌, ◌<◌, ◌≤◌, ◌∙◌, Bool, true, false, List, [], length, get_or, refl, sym, ap, arith, inl, inr}
use Rattle.std.specs.Prelude.{All, filter}
use Rattle.std.specs.List.{range_with_len}
use Rattle.std.specs.List.Sorted.{IsStrictlyIncreasing}
use Rattle.std.proofs.lemmas.Bool.Decides.{nat_tests}
use Rattle.std.proofs.lemmas.Bool.{cases_lt}
use Rattle.std.proofs.Math.ListN.{get_or-eq_default}
use Rattle.std.proofs.lemmas.List.FromFn.{length-range_with_len, get_or-range_with_len}
use Rattle.std.proofs.lemmas.List.Kept.{IsStrictlyIncreasing-filter}
use Rattle.px_base.specs.declared.TheConstants.{MOST_VERTICES}
use Rattle.px_base.specs.Values.{is_listed, positions_below}
use Rattle.px_base.specs.Parts.{IsCuts, is_within, low_of, high_of, part_count}
use Rattle.px_base.proofs.Members.{contains_listed, listed_contains, range_rises}
use Rattle.px_base.proofs.Ranges.{within_bounds}
use Rattle.partitioner.proofs.Owned.{low_below_high}
use Rattle.hub_terms.specs.Inboxes.{route_at}
use Rattle.hub_table.specs.Tables.{AreTables}
use Rattle.list_laws.proofs.Sums.{listed_is, listed_inside}

-- ---- ranges

-- what stands in a range
pub range_listed : (low high v : ℕ) → low ≤ high → is_listed (range_with_len low (high - low)) v ≡ is_within low high v
range_listed low high v order = by_range (is_within low high v) refl (is_listed (range_with_len low (high - low)) v) refl
  where
    by_range : (b : Bool) → is_within low high v ≡ b → (t : Bool) → is_listed (range_with_len low (high - low)) v ≡ t → t ≡ b
    by_range true is t told =
        let bounds = within_bounds low high v is in
        let inside : v - low < high - low = omega (arith, bounds.0, bounds.1) in
        let place : low + (v - low) ≡ v = omega (arith, bounds.0) in
        sym told ∙ contains_listed (range_with_len low (high - low)) v (v - low, omega (arith, inside, length-range_with_len low (high - low)), get_or-range_with_len low (high - low) (v - low) v inside ∙ place)
    by_range false is false told = refl
    by_range false is true told =
        let found = listed_contains (range_with_len low (high - low)) v told in
        let inside : found.0 < high - low = omega (arith, found.1, length-range_with_len low (high - low)) in
        let at : low + found.0 ≡ v = sym (get_or-range_with_len low (high - low) found.0 v inside) ∙ found.2 in
        let inn : is_within low high v ≡ true = (let from : low ≤ v = omega (arith, at) in let to : v < high = omega (arith, at, inside) in grind (arith, nat_tests)) in
        absurd (grind (arith, inn, is))

-- ---- the vertices of each part

pub masters_are : (cuts : List ℕ) (routes lists : List (List ℕ)) (n : ℕ) (counting : Bool) → IsCuts n cuts → counting ≡ true → length lists ≡ part_count cuts →
    ((j : ℕ) → j < part_count cuts → get_or lists j [] ≡ range_with_len (low_of cuts j) (high_of cuts j - low_of cuts j)) → AreTables cuts routes counting lists
masters_are cuts routes lists n counting c counts size each = record {
  size = size;
  listed = λ j v low. rw (each j low, counts) (range_listed (low_of cuts j) (high_of cuts j) v (low_below_high n cuts j c low));
}

routed_listed : (routes : List (List ℕ)) (j v : ℕ) → is_listed (filter (λ u. is_listed (route_at routes u) j) (positions_below (length routes))) v ≡ is_listed (route_at routes v) j
routed_listed routes j v = elim (cases_lt v (length routes)) [
  | inl low ↦ listed_is (length routes) (λ u. is_listed (route_at routes u) j) (filter (λ u. is_listed (route_at routes u) j) (positions_below (length routes))) v (λ f. refl) low
  | inr high ↦ by_test high (is_listed (filter (λ u. is_listed (route_at routes u) j) (positions_below (length routes))) v) refl ∙ sym (ap (λ route. is_listed route j) (get_or-eq_default routes [] high))
]
  where
    by_test : length routes ≤ v → (b : Bool) → is_listed (filter (λ u. is_listed (route_at routes u) j) (positions_below (length routes))) v ≡ b → b ≡ false
    by_test high false told = refl
    by_test high true told =
        let found = listed_contains (filter (λ u. is_listed (route_at routes u) j) (positions_below (length routes))) v told in
        let inside = listed_inside (length routes) (λ u. is_listed (route_at routes u) j) (filter (λ u. is_listed (route_at routes u) j) (positions_below (length routes))) (λ f. refl) found.0 v found.1 in
        absurd (omega (arith, inside, found.2, high))

pub mirrors_are : (cuts : List ℕ) (routes lists : List (List ℕ)) (counting : Bool) → counting ≡ false → length lists ≡ part_count cuts →
    ((j : ℕ) → j < part_count cuts → get_or lists j [] ≡ filter (λ u. is_listed (route_at routes u) j) (positions_below (length routes))) → AreTables cuts routes counting lists
mirrors_are cuts routes lists counting plain size each = record { size = size; listed = λ j v low. rw (each j low, plain) (routed_listed routes j v) }

-- the mirrors of a part rise, and are within the limit
pub mirrors_rise : (routes : List (List ℕ)) (j : ℕ) → IsStrictlyIncreasing (filter (λ u. is_listed (route_at routes u) j) (positions_below (length routes)))
mirrors_rise routes j = IsStrictlyIncreasing-filter (λ u. is_listed (route_at routes u) j) (positions_below (length routes)) (range_rises 0 (length routes))

pub mirrors_few : (routes : List (List ℕ)) (j : ℕ) → length routes ≤ MOST_VERTICES → All (λ v. v < MOST_VERTICES) (filter (λ u. is_listed (route_at routes u) j) (positions_below (length routes)))
mirrors_few routes j few k d below =
    omega (arith, few, listed_inside (length routes) (λ u. is_listed (route_at routes u) j) (filter (λ u. is_listed (route_at routes u) j) (positions_below (length routes))) (λ f. refl) k d below)
