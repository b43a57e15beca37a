-- Where a walk leads from a source, one of no more reads than there are vertices does.
use Rattle.std.proofs.Common.{◌≡◌, ℕ, ◌<◌, ◌≤◌, Bool, true, false, List, [], ◌∷◌, length, refl, sym, ap, ◌∙◌, arith}
use Rattle.std.specs.Prelude.{slice_index, sum, All, if◌then◌else◌}
use Rattle.std.specs.List.{AllByRecursion}
use Rattle.std.proofs.lemmas.List.Elements.{recursion_from_All}
use Rattle.std.proofs.lemmas.List.Sums.{sum_by-cons}
use Rattle.px_base.specs.declared.graph.Read.{Read}
use Rattle.px_base.specs.declared.program.CoreProgram.{CoreProgram}
use Rattle.px_base.specs.Values.{IsValueList, by_position, is_listed}
use Rattle.px_base.specs.Graphs.{RowsFit}
use Rattle.px_base.specs.ProgramNames.{components}
use Rattle.px_base.proofs.Positions.{at_position, length_by_position}
use Rattle.consistent_solver.specs.CoreLists.{IsGreatestCoreConsistent}
use Rattle.consistent_solver.proofs.Reaching.{greatest_exists}
use Rattle.walk_terms.specs.Walks.{IsSourceWalk, IsCarried, core_carried}
use Rattle.walk_terms.proofs.ReadEnds.{start_inside}
use Rattle.path_laws.proofs.CoreWalks.{core_attained, core_none_better}

-- ---- marks

-- 0 at the sources and 1 elsewhere
abbrev mark_of : Bool → ℕ
mark_of b = if b then 0 else 1

abbrev mark : List ℕ → ℕ → ℕ
mark sources u = mark_of (is_listed sources u)

abbrev marks : ℕ → List ℕ → List ℕ
marks n sources = by_position n (mark sources)

-- a program that hands marks on as they are and takes the least
abbrev handing_on : CoreProgram
handing_on = record { program = components; flipped = false }

mark_small : (b : Bool) → mark_of b ≤ 1
mark_small true = omega arith
mark_small false = omega arith

marked : (b : Bool) → mark_of b ≡ 0 → b ≡ true
marked true h = refl
marked false h = absurd (omega (arith, h))

marks_small : (n : ℕ) (sources : List ℕ) → All (λ x. x ≤ 1) (marks n sources)
marks_small n sources v d below =
    let inside : v < n = rw (length_by_position n (mark sources)) at below in
    rw (at_position n (mark sources) v d inside) (mark_small (is_listed sources v))

marks_are_values : (n : ℕ) (sources : List ℕ) → IsValueList n (marks n sources)
marks_are_values n sources = record {
  one_each = length_by_position n (mark sources);
  in_range = λ v d below. omega (arith, marks_small n sources v d below);
}

few : (xs : List ℕ) → AllByRecursion (λ x. x ≤ 1) xs → sum xs ≤ length xs
few [] each = omega arith
few (x ∷ xs) each = omega (arith, sum_by-cons (λ v. v) x xs, each.0, few xs each.1)

handed_on : (x : ℕ) (weights : List ℕ) → core_carried handing_on x weights ≡ x
handed_on x [] = refl
handed_on x (w ∷ weights) = handed_on x weights

-- ---- a short walk

pub short_walk : (rows : List (List Read)) (sources : List ℕ) (v : ℕ) (weights : List ℕ) → RowsFit (length rows) rows → v < length rows →
    IsSourceWalk rows sources v weights → (short : List ℕ) × IsSourceWalk rows sources v short × (length short ≤ length rows)
short_walk rows sources v weights fits inside (u, listed, walk) =
    let starts : List ℕ = marks (length rows) sources in
    let values : IsValueList (length rows) starts = marks_are_values (length rows) sources in
    let found : (x : List ℕ) × IsGreatestCoreConsistent handing_on rows starts x = greatest_exists handing_on rows starts refl values in
    let c : IsCarried handing_on rows starts (sum starts) v (slice_index found.0 v) = core_attained handing_on rows starts found.0 v refl fits values found.1 inside in
    let low : slice_index found.0 v ≤ core_carried handing_on (slice_index starts u) weights =
    core_none_better handing_on rows starts found.0 u v weights refl fits values found.1.consistent inside walk in
    let begun : slice_index starts u ≡ 0 =
    at_position (length rows) (mark sources) u 0 (start_inside rows u v weights fits inside walk) ∙ ap mark_of listed in
    let at : slice_index starts c.from ≡ mark_of (is_listed sources c.from) = at_position (length rows) (mark sources) c.from 0 c.inside in
    let none : slice_index starts c.from ≡ 0 = omega (arith, c.is, low, begun, handed_on (slice_index starts u) weights, handed_on (slice_index starts c.from) c.weights) in
    let count : sum starts ≤ length starts = few starts (recursion_from_All (λ x. x ≤ 1) starts (marks_small (length rows) sources)) in
    (c.weights, (c.from, marked (is_listed sources c.from) (sym at ∙ none), c.walk), omega (arith, c.short, count, values.one_each))
