-- The least id of a vertex from which a walk leads.
use Rattle.std.proofs.Common.{◌≡◌, ℕ, ◌<◌, ◌≤◌, List, [], ◌∷◌, length, refl, sym, ◌∙◌, arith}
use Rattle.std.specs.Prelude.{slice_index, All}
use Rattle.px_base.specs.declared.graph.Read.{Read}
use Rattle.px_base.specs.Values.{IsValue, IsValueList}
use Rattle.px_base.specs.Graphs.{RowsFit}
use Rattle.px_base.specs.Starts.{starts_of}
use Rattle.px_base.specs.Answers.{IsAnswer}
use Rattle.px_base.specs.ProgramNames.{components}
use Rattle.walk_terms.specs.Walks.{IsWalk, LeadsTo, carried}
use Rattle.path_laws.specs.Readings.{IsLeastId}
use Rattle.path_laws.proofs.Beginning.{own_rows, start_at, starts_are_values}
use Rattle.walk_terms.proofs.ReadEnds.{start_inside}
use Rattle.path_laws.proofs.Turned.{attained, none_better}

components_bring : (y : ℕ) (weights : List ℕ) → carried components y weights ≡ y
components_bring y [] = refl
components_bring y (w ∷ weights) = components_bring y weights

pub components_are : (rows : List (List Read)) (ids sources x : List ℕ) → RowsFit (length ids) rows → All IsValue ids →
    IsAnswer components rows (starts_of components.start ids sources) x → (v : ℕ) → v < length ids → IsLeastId ids (λ u. LeadsTo rows u v) (slice_index x v)
components_are rows ids sources x fit small answer v below = record { none_less = none_less; attained = from }
  where
    starts : List ℕ
    starts = starts_of components.start ids sources

    fits : RowsFit (length rows) rows
    fits = own_rows (length ids) rows fit

    values : IsValueList (length rows) starts
    values = starts_are_values components.start rows ids sources fit (λ u here. small u 0 here)

    inside : v < length rows
    inside = omega (arith, fit.one_each, below)

    brought : (u : ℕ) (weights : List ℕ) → IsWalk rows u v weights → carried components (slice_index starts u) weights ≡ slice_index ids u
    brought u weights walk =
        components_bring (slice_index starts u) weights ∙ start_at components.start rows ids sources u fit (start_inside rows u v weights fits inside walk)

    none_less : (u : ℕ) → LeadsTo rows u v → slice_index x v ≤ slice_index ids u
    none_less u (weights, walk) = rw (brought u weights walk) at (none_better components rows starts x refl fits values answer u v weights inside walk)

    from : (u : ℕ) × LeadsTo rows u v × (slice_index ids u ≡ slice_index x v)
    from = (let some = attained components rows starts x refl fits values answer v inside in (some.0, (some.1, some.2), sym (brought some.0 some.1 some.2) ∙ sym some.3))
