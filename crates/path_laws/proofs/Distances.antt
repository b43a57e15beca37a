-- The least cost of walks from a source.
use Rattle.std.proofs.Common.{◌≡◌, ◌≢◌, ℕ, ◌+◌, ◌*◌, ◌^◌, ◌<◌, ◌≤◌, min, Bool, true, false, List, [], ◌∷◌, length, refl, ap, ◌∙◌, subst, arith, inl, inr}
use Rattle.std.specs.Prelude.{slice_index, sum, if◌then◌else◌}
use Rattle.std.proofs.lemmas.Bool.{cases_lt}
use Rattle.std.proofs.lemmas.List.Sums.{sum_by-cons}
use Rattle.px_base.specs.declared.TheConstants.{MOST_VERTICES, TOP}
use Rattle.px_base.specs.declared.graph.Read.{Read}
use Rattle.px_base.specs.Values.{IsValueList, is_listed}
use Rattle.px_base.specs.Graphs.{RowsFit}
use Rattle.px_base.specs.Starts.{starts_of}
use Rattle.px_base.specs.Answers.{IsAnswer}
use Rattle.px_base.specs.Programs.{bfs}
use Rattle.px_base.specs.ProgramNames.{sssp}
use Rattle.walk_terms.specs.Walks.{IsSourceWalk, IsWalk, carried}
use Rattle.path_laws.specs.Readings.{IsLeastCost}
use Rattle.path_laws.proofs.Beginning.{own_rows, start_at, starts_are_values}
use Rattle.walk_terms.proofs.ReadEnds.{start_inside, weight_fits}
use Rattle.path_laws.proofs.Reached.{short_walk}
use Rattle.path_laws.proofs.Turned.{attained, none_better}

-- ---- start values of sources

abbrev at_source : Bool → ℕ
at_source b = if b then 0 else TOP

source_is_value : (b : Bool) → at_source b ≤ TOP
source_is_value true = omega arith
source_is_value false = omega arith

-- ---- the least cost

-- What is so far known of a value x at v: no walk brings less, and some walk brings it.
pub record IsBest (rows : List (List Read)) (starts : List ℕ) (bring : ℕ → List ℕ → ℕ) (v x : ℕ) : Type 0 where
  none_less : (u : ℕ) (weights : List ℕ) → IsWalk rows u v weights → x ≤ bring (slice_index starts u) weights
  from : ℕ
  weights : List ℕ
  walk : IsWalk rows from v weights
  is : x ≡ bring (slice_index starts from) weights

-- Where what is brought is the start value and a cost, up to TOP, and a walk of few reads costs less than TOP.
least_cost : (cost : List ℕ → ℕ) (rows : List (List Read)) (sources starts : List ℕ) (bring : ℕ → List ℕ → ℕ) (v x : ℕ) →
    RowsFit (length rows) rows → v < length rows → ((u : ℕ) → u < length rows → slice_index starts u ≡ at_source (is_listed sources u)) →
    ((y : ℕ) (weights : List ℕ) → y ≤ TOP → bring y weights ≡ min (y + cost weights) TOP) →
    ((u : ℕ) (weights : List ℕ) → IsWalk rows u v weights → length weights ≤ length rows → cost weights < TOP) →
    IsBest rows starts bring v x → IsLeastCost cost (IsSourceWalk rows sources v) x
least_cost cost rows sources starts bring v x fits inside begun brings cheap best = record { none_less = none_less; attained = attained; top = (unreached, topped) }
  where
    none_less : (weights : List ℕ) → IsSourceWalk rows sources v weights → x ≤ cost weights
    none_less weights (u, listed, walk) =
        let zero_start : slice_index starts u ≡ 0 = begun u (start_inside rows u v weights fits inside walk) ∙ ap at_source listed in
        let low : x ≤ bring 0 weights = subst (λ (y : ℕ). x ≤ bring y weights) zero_start (best.none_less u weights walk) in
        omega (arith, low, brings 0 weights (omega arith))

    by_start : (b : Bool) → is_listed sources best.from ≡ b → x ≢ TOP → (weights : List ℕ) × IsSourceWalk rows sources v weights × (cost weights ≡ x)
    by_start true listed apart =
        let zero_start : slice_index starts best.from ≡ 0 = begun best.from (start_inside rows best.from v best.weights fits inside best.walk) ∙ ap at_source listed in
        let is : x ≡ bring 0 best.weights = best.is ∙ ap (λ y. bring y best.weights) zero_start in
        (best.weights, (best.from, listed, best.walk), omega (arith, is, brings 0 best.weights (omega arith), apart))
    by_start false unlisted apart =
        let top_start : slice_index starts best.from ≡ TOP = begun best.from (start_inside rows best.from v best.weights fits inside best.walk) ∙ ap at_source unlisted in
        let is : x ≡ bring TOP best.weights = best.is ∙ ap (λ y. bring y best.weights) top_start in
        absurd (apart (omega (arith, is, brings TOP best.weights (omega arith))))

    attained : x ≢ TOP → (weights : List ℕ) × IsSourceWalk rows sources v weights × (cost weights ≡ x)
    attained = by_start (is_listed sources best.from) refl

    unreached : x ≡ TOP → (weights : List ℕ) → ¬ IsSourceWalk rows sources v weights
    unreached is weights walk =
        let short : (few : List ℕ) × IsSourceWalk rows sources v few × (length few ≤ length rows) = short_walk rows sources v weights fits inside walk in
        absurd (omega (arith, is, none_less short.0 short.1, cheap short.1.0 short.0 short.1.2 short.2))

    within : x ≤ TOP
    within =
        let low : slice_index starts best.from ≤ TOP =
        rw (begun best.from (start_inside rows best.from v best.weights fits inside best.walk)) (source_is_value (is_listed sources best.from)) in
        omega (arith, best.is, brings (slice_index starts best.from) best.weights low)

    topped : ((weights : List ℕ) → ¬ IsSourceWalk rows sources v weights) → x ≡ TOP
    topped none = elim (cases_lt x TOP) [
      | inl below ↦ (let found = attained (λ e. absurd (omega arith)) in absurd (none found.0 found.1))
      | inr above ↦ omega (arith, above, within)
    ]

-- ---- by program

pub bfs_brings : (y : ℕ) (weights : List ℕ) → y ≤ TOP → carried bfs y weights ≡ min (y + length weights) TOP
bfs_brings y [] low = omega (arith, low)
bfs_brings y (w ∷ weights) low = bfs_brings (min (y + 1) TOP) weights (omega arith) ∙ omega arith

sssp_brings : (y : ℕ) (weights : List ℕ) → y ≤ TOP → carried sssp y weights ≡ min (y + sum weights) TOP
sssp_brings y [] low = omega (arith, low)
sssp_brings y (w ∷ weights) low = sssp_brings (min (y + w) TOP) weights (omega arith) ∙ omega (arith, sum_by-cons (λ x. x) w weights)

-- a walk has weights below 2 ^ 32
sum_within : (rows : List (List Read)) (u v : ℕ) (weights : List ℕ) → RowsFit (length rows) rows → IsWalk rows u v weights → sum weights ≤ length weights * 2 ^ 32
sum_within rows u v [] fits walk = omega arith
sum_within rows u v (w ∷ weights) fits (next, read, rest) =
    omega (arith, sum_by-cons (λ x. x) w weights, weight_fits rows next u w fits read, sum_within rows next v weights fits rest)

pub bfs_is : (rows : List (List Read)) (ids sources x : List ℕ) → RowsFit (length ids) rows → length ids ≤ MOST_VERTICES →
    IsAnswer bfs rows (starts_of bfs.start ids sources) x → (v : ℕ) → v < length ids → IsLeastCost length (IsSourceWalk rows sources v) (slice_index x v)
bfs_is rows ids sources x fit limit answer v below =
    let starts : List ℕ = starts_of bfs.start ids sources in
    let fits : RowsFit (length rows) rows = own_rows (length ids) rows fit in
    let values : IsValueList (length rows) starts = starts_are_values bfs.start rows ids sources fit (λ u here. source_is_value (is_listed sources u)) in
    let inside : v < length rows = omega (arith, fit.one_each, below) in
    let some = attained bfs rows starts x refl fits values answer v inside in
    least_cost length rows sources starts (carried bfs) v (slice_index x v) fits inside
    (λ u here. start_at bfs.start rows ids sources u fit here) bfs_brings (λ u weights walk short. omega (arith, short, limit, fit.one_each))
    (record { none_less = λ u weights walk. none_better bfs rows starts x refl fits values answer u v weights inside walk; from = some.0; weights = some.1; walk = some.2; is = some.3 })

pub sssp_is : (rows : List (List Read)) (ids sources x : List ℕ) → RowsFit (length ids) rows → length ids ≤ MOST_VERTICES →
    IsAnswer sssp rows (starts_of sssp.start ids sources) x → (v : ℕ) → v < length ids → IsLeastCost sum (IsSourceWalk rows sources v) (slice_index x v)
sssp_is rows ids sources x fit limit answer v below =
    let starts : List ℕ = starts_of sssp.start ids sources in
    let fits : RowsFit (length rows) rows = own_rows (length ids) rows fit in
    let values : IsValueList (length rows) starts = starts_are_values sssp.start rows ids sources fit (λ u here. source_is_value (is_listed sources u)) in
    let inside : v < length rows = omega (arith, fit.one_each, below) in
    let some = attained sssp rows starts x refl fits values answer v inside in
    least_cost sum rows sources starts (carried sssp) v (slice_index x v) fits inside
    (λ u here. start_at sssp.start rows ids sources u fit here) sssp_brings
    (λ u weights walk short. omega (arith, short, limit, fit.one_each, sum_within rows u v weights fits walk))
    (record { none_less = λ u weights walk. none_better sssp rows starts x refl fits values answer u v weights inside walk; from = some.0; weights = some.1; walk = some.2; is = some.3 })
