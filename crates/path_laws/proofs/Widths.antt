-- The greatest width of walks from a source.
use Rattle.std.proofs.Common.{◌≡◌, ◌≢◌, ℕ, ◌<◌, ◌≤◌, min, Bool, true, false, List, [], ◌∷◌, length, refl, ap, ◌∙◌, subst, arith, inl, inr}
use Rattle.std.specs.Prelude.{slice_index, if◌then◌else◌}
use Rattle.std.proofs.lemmas.Bool.{cases_lt}
use Rattle.px_base.specs.declared.TheConstants.{TOP}
use Rattle.px_base.specs.declared.graph.Read.{Read}
use Rattle.px_base.specs.Values.{IsValueList, is_listed}
use Rattle.px_base.specs.Graphs.{RowsFit}
use Rattle.px_base.specs.Rules.{least}
use Rattle.px_base.specs.Starts.{starts_of}
use Rattle.px_base.specs.Answers.{IsAnswer}
use Rattle.px_base.specs.ProgramNames.{widest}
use Rattle.px_base.proofs.Gathers.{least_below_start}
use Rattle.walk_terms.specs.Walks.{IsSourceWalk, IsWalk, carried}
use Rattle.path_laws.specs.Readings.{IsGreatestWidth, width}
use Rattle.path_laws.proofs.Beginning.{own_rows, start_at, starts_are_values}
use Rattle.walk_terms.proofs.ReadEnds.{start_inside}
use Rattle.path_laws.proofs.Turned.{attained, none_better}

-- the least of a start value and some items, from TOP
least_from : (y : ℕ) (items : List ℕ) → y ≤ TOP → least y items ≡ min y (least TOP items)
least_from y [] low = omega (arith, low)
least_from y (w ∷ items) low =
    omega (arith, low, least_from (min y w) items (omega (arith, low)), least_from (min TOP w) items (omega arith))

widest_brings : (y : ℕ) (weights : List ℕ) → y ≤ TOP → carried widest y weights ≡ min y (width weights)
widest_brings y [] low = omega (arith, low)
widest_brings y (w ∷ weights) low =
    omega (arith, low, widest_brings (min y w) weights (omega (arith, low)), least_from (min TOP w) weights (omega arith))

abbrev at_source : Bool → ℕ
at_source b = if b then TOP else 0

source_is_value : (b : Bool) → at_source b ≤ TOP
source_is_value true = omega arith
source_is_value false = omega arith

pub widest_is : (rows : List (List Read)) (ids sources x : List ℕ) → RowsFit (length ids) rows →
    IsAnswer widest rows (starts_of widest.start ids sources) x → (v : ℕ) → v < length ids → IsGreatestWidth (IsSourceWalk rows sources v) (slice_index x v)
widest_is rows ids sources x fit answer v below = record { none_wider = none_wider; attained = widest_of; zero = zero_at }
  where
    starts : List ℕ
    starts = starts_of widest.start ids sources

    fits : RowsFit (length rows) rows
    fits = own_rows (length ids) rows fit

    values : IsValueList (length rows) starts
    values = starts_are_values widest.start rows ids sources fit (λ u here. source_is_value (is_listed sources u))

    inside : v < length rows
    inside = omega (arith, fit.one_each, below)

    begun : (u : ℕ) (weights : List ℕ) (b : Bool) → IsWalk rows u v weights → is_listed sources u ≡ b → slice_index starts u ≡ at_source b
    begun u weights b walk listed =
        start_at widest.start rows ids sources u fit (start_inside rows u v weights fits inside walk) ∙ ap at_source listed

    none_wider : (weights : List ℕ) → IsSourceWalk rows sources v weights → width weights ≤ slice_index x v
    none_wider weights (u, listed, walk) =
        let low : carried widest TOP weights ≤ slice_index x v =
        subst (λ (y : ℕ). carried widest y weights ≤ slice_index x v) (begun u weights true walk listed) (none_better widest rows starts x refl fits values answer u v weights inside walk) in
        omega (arith, low, widest_brings TOP weights (omega arith), least_below_start TOP weights)

    by_start : (u : ℕ) (weights : List ℕ) (b : Bool) → is_listed sources u ≡ b → IsWalk rows u v weights → slice_index x v ≡ carried widest (slice_index starts u) weights →
        slice_index x v ≢ 0 → (weights : List ℕ) × IsSourceWalk rows sources v weights × (width weights ≡ slice_index x v)
    by_start u weights true listed walk is apart =
        let brought : slice_index x v ≡ carried widest TOP weights = is ∙ ap (λ y. carried widest y weights) (begun u weights true walk listed) in
        (weights, (u, listed, walk), omega (arith, brought, widest_brings TOP weights (omega arith), least_below_start TOP weights))
    by_start u weights false unlisted walk is apart =
        let brought : slice_index x v ≡ carried widest 0 weights = is ∙ ap (λ y. carried widest y weights) (begun u weights false walk unlisted) in
        absurd (apart (omega (arith, brought, widest_brings 0 weights (omega arith))))

    widest_of : slice_index x v ≢ 0 → (weights : List ℕ) × IsSourceWalk rows sources v weights × (width weights ≡ slice_index x v)
    widest_of = (let some = attained widest rows starts x refl fits values answer v inside in by_start some.0 some.1 (is_listed sources some.0) refl some.2 some.3)

    zero_at : ((weights : List ℕ) → ¬ IsSourceWalk rows sources v weights) → slice_index x v ≡ 0
    zero_at none = elim (cases_lt 0 (slice_index x v)) [
      | inl above ↦ (let found = widest_of (λ e. absurd (omega (arith, above, e))) in absurd (none found.0 found.1))
      | inr at ↦ omega arith
    ]
