-- Places and the positions that stand there.
use Rattle.std.proofs.Common.{◌≡◌, ℕ, zero, suc, ◌+◌, ◌-◌, ◌<◌, ◌≤◌, Bool, true, false, List, [], ◌∷◌, length, map, get_or, refl, sym, ap, ◌∙◌, arith, eqb-true}
use Rattle.std.specs.Prelude.{All, ◌==◌, ◌||◌, nat_lt, if◌then◌else◌}
use Rattle.std.proofs.lemmas.Bool.Decides.{nat_tests}
use Rattle.std.proofs.lemmas.List.{get_or-map, length-map}
use Rattle.std.proofs.lemmas.List.Elements.{All-head, All-tail}
use Rattle.px_base.specs.declared.TheConstants.{MOST_VERTICES}
use Rattle.px_base.specs.declared.graph.Part.{Part}
use Rattle.px_base.specs.declared.graph.Read.{Read}
use Rattle.px_base.specs.FlatRows.{with_source, with_sources}
use Rattle.px_base.specs.Graphs.{row_at}
use Rattle.px_base.specs.Parts.{PartFits, is_within, is_known}
use Rattle.px_base.specs.Values.{is_listed, place_of}
use Rattle.px_base.proofs.Listed.{rises_from_zero}
use Rattle.px_base.proofs.Ranges.{within_bounds}
use Rattle.placed_parts.specs.Places.{IsPlaced, master_count, place_in, placed_row, position_at, with_positions}

-- a part that fits has at most as many mirrors as there are vertices
pub mirror_count : (part : Part) → PartFits part → length part.mirrors ≤ MOST_VERTICES
mirror_count part fits = by_count (length part.mirrors) refl
  where
    by_count : (n : ℕ) → length part.mirrors ≡ n → n ≤ MOST_VERTICES
    by_count zero is = omega arith
    by_count (suc n) is =
        let last : n < length part.mirrors = omega arith in
        omega (arith, rises_from_zero part.mirrors fits.mirrors_rise n last, (fits.mirrors_outside n 0 last).0)

pub listed_within : (xs : List ℕ) (u : ℕ) → is_listed xs u ≡ true → place_of xs u < length xs
listed_within [] u is = cc
listed_within (x ∷ xs) u is = by_first (x == u) refl is (listed_within xs u)
  where
    by_first : (b : Bool) → (x == u) ≡ b → (b || is_listed xs u) ≡ true → (is_listed xs u ≡ true → place_of xs u < length xs) → place_of (x ∷ xs) u < length (x ∷ xs)
    by_first true e is rest = rw e (omega arith)
    by_first false e is rest = rw e (omega (arith, rest is))

-- at the place of an item of a list it stands
place_holds : (xs : List ℕ) (u : ℕ) → is_listed xs u ≡ true → get_or xs (place_of xs u) 0 ≡ u
place_holds [] u is = cc
place_holds (x ∷ xs) u is = by_first (x == u) refl is (place_holds xs u)
  where
    by_first : (b : Bool) → (x == u) ≡ b → (b || is_listed xs u) ≡ true → (is_listed xs u ≡ true → get_or xs (place_of xs u) 0 ≡ u) → get_or (x ∷ xs) (place_of (x ∷ xs) u) 0 ≡ u
    by_first true e is rest = rw e (eqb-true x u e)
    by_first false e is rest =
        let next : 1 + place_of xs u ≡ suc (place_of xs u) = omega arith in
        rw e (ap (λ k. get_or (x ∷ xs) k 0) next ∙ rest is)

-- a place is one of those of masters and mirrors
pub place_within : (part : Part) (u : ℕ) → is_known part u ≡ true → place_in part u < master_count part + length part.mirrors
place_within part u known = by_range (is_within part.low part.high u) refl known
  where
    by_range : (b : Bool) → is_within part.low part.high u ≡ b → (b || is_listed part.mirrors u) ≡ true →
        (if b then u - part.low else master_count part + place_of part.mirrors u) < master_count part + length part.mirrors
    by_range true is known = omega (arith, (within_bounds part.low part.high u is).0, (within_bounds part.low part.high u is).1)
    by_range false is known = omega (arith, listed_within part.mirrors u known)

-- at its place a master or a mirror stands
position_again : (part : Part) (u : ℕ) → is_known part u ≡ true → position_at part (place_in part u) ≡ u
position_again part u known = by_range (is_within part.low part.high u) refl known
  where
    by_range : (b : Bool) → is_within part.low part.high u ≡ b → (b || is_listed part.mirrors u) ≡ true → position_at part (if b then u - part.low else master_count part + place_of part.mirrors u) ≡ u
    by_range true is known =
        let from : part.low ≤ u = (within_bounds part.low part.high u is).0 in
        let to : u < part.high = (within_bounds part.low part.high u is).1 in
        let master : nat_lt (u - part.low) (master_count part) ≡ true = grind (arith, nat_tests) in
        rw master (omega arith)
    by_range false is known =
        let mirror : nat_lt (master_count part + place_of part.mirrors u) (master_count part) ≡ false = grind (arith, nat_tests) in
        let at : master_count part + place_of part.mirrors u - master_count part ≡ place_of part.mirrors u = omega arith in
        rw (mirror, at) (place_holds part.mirrors u known)

row_again : (part : Part) (row : List Read) → All (λ (r : Read). is_known part r.source ≡ true) row → map (with_source (position_at part)) (placed_row part row) ≡ row
row_again part [] known = refl
row_again part (r ∷ row) known =
    let source : position_at part (place_in part r.source) ≡ r.source = position_again part r.source (All-head (λ (x : Read). is_known part x.source ≡ true) r row known) in
    λ i. record { source = source i; weight = r.weight } ∷ row_again part row (All-tail (λ (x : Read). is_known part x.source ≡ true) r row known) i

-- places and back again
pub rows_again : (part : Part) (rows : List (List Read)) → All (λ row. All (λ (r : Read). is_known part r.source ≡ true) row) rows → with_sources (position_at part) (with_sources (place_in part) rows) ≡ rows
rows_again part [] known = refl
rows_again part (row ∷ rows) known =
    let Known : List Read → Type 0 = λ xs. All (λ (r : Read). is_known part r.source ≡ true) xs in
    λ i. row_again part row (All-head Known row rows known) i ∷ rows_again part rows (All-tail Known row rows known) i

-- the row of a master, by place
pub placed_at : (part : Part) (k : ℕ) → IsPlaced part → k < length part.rows → row_at part.rows k ≡ placed_row part (row_at (with_positions part).rows k)
placed_at part k placed inside =
    let count : length part.rows ≡ length (with_positions part).rows = sym (length-map part.rows (λ row. map (with_source (position_at part)) row)) in
    ap (λ rows. row_at rows k) placed.rows ∙ get_or-map (λ row. map (with_source (place_in part)) row) (with_positions part).rows k [] [] (omega (arith, count))

-- ---- the part with other rows

abbrev pub with_rows : Part → List (List Read) → Part
with_rows part rows = record {
  index = part.index;
  low = part.low;
  high = part.high;
  rows = rows;
  starts = part.starts;
  mirrors = part.mirrors;
  mirror_starts = part.mirror_starts;
  boundary = part.boundary;
}

rows_back : (part : Part) (rows : List (List Read)) → PartFits part → rows ≡ with_sources (place_in part) part.rows → with_sources (position_at part) rows ≡ part.rows
rows_back part rows fits is = ap (with_sources (position_at part)) is ∙ rows_again part part.rows fits.sources

pub part_again : (part : Part) (rows : List (List Read)) → PartFits part → rows ≡ with_sources (place_in part) part.rows → with_positions (with_rows part rows) ≡ part
part_again part rows fits is = ap (with_rows part) (rows_back part rows fits is)

pub is_placed : (part : Part) (rows : List (List Read)) → PartFits part → rows ≡ with_sources (place_in part) part.rows → IsPlaced (with_rows part rows)
is_placed part rows fits is = record { rows = is ∙ ap (with_sources (place_in part)) (sym (rows_back part rows fits is)) }
