-- One round of all workers is one renewal of the whole list: each vertex takes the least of its value and of what it gathers.
use Rattle.std.proofs.Common.{◌≡◌, ℕ, ◌+◌, ◌-◌, ◌<◌, ◌≤◌, min, true, List, [], ◌∷◌, length, map, refl, sym, ap, ◌∙◌, arith}
use Rattle.std.specs.Prelude.{slice_index, slice_range}
use Rattle.std.specs.List.{AllByRecursion}
use Rattle.std.proofs.lemmas.List.Elements.{recursion_from_All}
use Rattle.px_base.specs.declared.graph.Read.{Read}
use Rattle.px_base.specs.declared.graph.Part.{Part}
use Rattle.px_base.specs.declared.program.CoreProgram.{CoreProgram}
use Rattle.px_base.specs.Graphs.{row_at}
use Rattle.px_base.specs.Classes.{keeps}
use Rattle.px_base.specs.Core.{core_edge_value, core_gather, core_pull}
use Rattle.px_base.specs.Parts.{PartFits, is_known, part_of, low_of, high_of}
use Rattle.px_base.specs.Pulls.{known_value, master_pull}
use Rattle.px_base.specs.ValueSteps.{renewed_masters, renewed_value}
use Rattle.px_base.proofs.Positions.{length_by_position, at_position}
use Rattle.consistent_solver.specs.CoreLists.{gathered_at, renewed, renewed_at}
use Rattle.list_laws.proofs.Ranges.{at_range, length_range, is_range, known_is}

same_edge_values : (core : CoreProgram) (f g : ℕ → ℕ) (row : List Read) → AllByRecursion (λ r. f r.source ≡ g r.source) row →
    map (λ r. core_edge_value core (f r.source) r.weight) row ≡ map (λ r. core_edge_value core (g r.source) r.weight) row
same_edge_values core f g [] h = refl
same_edge_values core f g (r ∷ row) h = ap (λ x. core_edge_value core x r.weight ∷ map (λ q. core_edge_value core (f q.source) q.weight) row) h.0
    ∙ ap (λ xs. core_edge_value core (g r.source) r.weight ∷ xs) (same_edge_values core f g row h.1)

known_row : (part : Part) (x : List ℕ) (row : List Read) → AllByRecursion (λ r. is_known part r.source ≡ true) row →
    AllByRecursion (λ r. known_value part (slice_range x part.low part.high) (map (slice_index x) part.mirrors) r.source ≡ slice_index x r.source) row
known_row part x [] h = tt
known_row part x (r ∷ row) h = (known_is part x r.source h.0, known_row part x row h.1)

-- a master gathers what its vertex does
master_gathers : (part : Part) (core : CoreProgram) (x : List ℕ) (k : ℕ) → PartFits part → k < length part.rows →
    master_pull part core (slice_range x part.low part.high) (map (slice_index x) part.mirrors) k ≡ core_pull core (slice_index x) (slice_index part.starts k) (row_at part.rows k)
master_gathers part core x k fits below =
    ap (core_gather core (slice_index part.starts k)) (same_edge_values core (known_value part (slice_range x part.low part.high) (map (slice_index x) part.mirrors)) (slice_index x) (row_at part.rows k)
    (known_row part x (row_at part.rows k) (recursion_from_All (λ r. is_known part r.source ≡ true) (row_at part.rows k) (fits.sources k [] below))))

takes_least : (core : CoreProgram) (value pulled : ℕ) → keeps core.program.own ≡ true → renewed_value core value pulled ≡ min value pulled
takes_least core value pulled kept = rw kept refl

-- The masters of a part, where masters and mirrors have their values of x, are renewed as their vertices are.
pub masters_renewed : (core : CoreProgram) (rows : List (List Read)) (starts x cuts : List ℕ) (i : ℕ) → keeps core.program.own ≡ true → PartFits (part_of rows starts cuts i) →
    high_of cuts i ≤ length rows →
    renewed_masters (part_of rows starts cuts i) core (slice_range x (low_of cuts i) (high_of cuts i)) (map (slice_index x) (part_of rows starts cuts i).mirrors)
    ≡ slice_range (renewed core rows starts x) (low_of cuts i) (high_of cuts i)
masters_renewed core rows starts x cuts i kept fits inside =
    let part : Part = part_of rows starts cuts i in
    let low : ℕ = low_of cuts i in
    let high : ℕ = high_of cuts i in
    let count : length part.rows ≡ high - low = length_range rows low high fits.range inside in
    is_range (renewed_masters part core (slice_range x low high) (map (slice_index x) part.mirrors)) (renewed core rows starts x) low high fits.range
    (rw (length_by_position (length rows) (renewed_at core rows starts x)) inside)
    (length_by_position (length part.rows) _ ∙ count)
    (λ k below.
    let inner : k < length part.rows = omega arith in
    let v : ℕ = low + k in
    let pulled : master_pull part core (slice_range x low high) (map (slice_index x) part.mirrors) k ≡ gathered_at core rows starts x v =
    master_gathers part core x k fits inner ∙ ap (λ s. core_pull core (slice_index x) s (row_at part.rows k)) (at_range starts low high k 0 below)
    ∙ ap (core_pull core (slice_index x) (slice_index starts v)) (at_range rows low high k [] below) in
    at_position (length part.rows) (λ j. renewed_value core (slice_index (slice_range x low high) j) (master_pull part core (slice_range x low high) (map (slice_index x) part.mirrors) j)) k 0 inner
    ∙ takes_least core (slice_index (slice_range x low high) k) (master_pull part core (slice_range x low high) (map (slice_index x) part.mirrors) k) kept
    ∙ ap (λ own. min own (master_pull part core (slice_range x low high) (map (slice_index x) part.mirrors) k)) (at_range x low high k 0 below)
    ∙ ap (min (slice_index x v)) pulled
    ∙ sym (at_position (length rows) (renewed_at core rows starts x) v 0 (omega arith)))
