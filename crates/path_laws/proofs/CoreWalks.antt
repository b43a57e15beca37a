-- In core values the greatest consistent list has at each vertex the least that a start value becomes along a walk to it.
use Rattle.std.proofs.Common.{◌≡◌, ℕ, zero, suc, ◌+◌, ◌<◌, ◌≤◌, false, List, [], ◌∷◌, length, sym, subst, arith, inl, inr}
use Rattle.std.specs.Prelude.{slice_index, sum}
use Rattle.px_base.specs.declared.graph.Read.{Read}
use Rattle.px_base.specs.declared.program.CoreProgram.{CoreProgram}
use Rattle.px_base.specs.Values.{IsValue, IsValueList}
use Rattle.px_base.specs.Graphs.{RowsFit}
use Rattle.px_base.specs.Classes.{is_mex}
use Rattle.px_base.specs.Core.{core_edge_value}
use Rattle.value_laws.specs.EdgeLaws.{core_in_range, core_monotone}
use Rattle.consistent_solver.specs.CoreLists.{IsBelow, IsCoreConsistent, IsGreatestCoreConsistent, renewed}
use Rattle.consistent_solver.proofs.Below.{below_renewed, below_starts, value_anywhere}
use Rattle.consistent_solver.proofs.Reaching.{only_greatest, renewed_falls, renewed_values, still_greatest}
use Rattle.walk_terms.specs.Walks.{IsWalk, core_carried, IsCarried}
use Rattle.walk_terms.proofs.ReadEnds.{reader_inside, weight_fits, start_inside, gathered_below_read}
use Rattle.walk_terms.proofs.Carried.{AreCarried, start_carried, longer_carried, renewed_carried}

-- ---- no walk brings less

-- A consistent list that is at most y where a walk begins is, where it ends, at most what y becomes along it.
below_carried : (core : CoreProgram) (rows : List (List Read)) (starts x : List ℕ) (u v y : ℕ) (weights : List ℕ) → is_mex core.program.fold ≡ false →
    RowsFit (length rows) rows → IsCoreConsistent core rows starts x → IsWalk rows u v weights → slice_index x u ≤ y → IsValue y →
    slice_index x v ≤ core_carried core y weights
below_carried core rows starts x u v y [] plain fits c here low known = subst (λ (a : ℕ). slice_index x a ≤ y) here low
below_carried core rows starts x u v y (w ∷ weights) plain fits c (next, read, rest) low known =
    let taken : slice_index x next ≤ core_edge_value core (slice_index x u) w =
    omega (arith, c.each next (reader_inside rows next u w read), gathered_below_read core rows starts x next u w plain read) in
    let grown : core_edge_value core (slice_index x u) w ≤ core_edge_value core y w = core_monotone core (slice_index x u) y w known low in
    below_carried core rows starts x next v (core_edge_value core y w) weights plain fits c rest (omega (arith, taken, grown))
    (core_in_range core y w known (weight_fits rows next u w fits read))

pub core_none_better : (core : CoreProgram) (rows : List (List Read)) (starts x : List ℕ) (u v : ℕ) (weights : List ℕ) → is_mex core.program.fold ≡ false →
    RowsFit (length rows) rows → IsValueList (length rows) starts → IsCoreConsistent core rows starts x → v < length rows → IsWalk rows u v weights →
    slice_index x v ≤ core_carried core (slice_index starts u) weights
core_none_better core rows starts x u v weights plain fits valued c inside walk =
    below_carried core rows starts x u v (slice_index starts u) weights plain fits c walk
    (below_starts core rows starts x plain c u (start_inside rows u v weights fits inside walk)) (value_anywhere (length rows) starts u valued)

-- ---- some walk brings it

-- a greatest consistent list whose values walks bring
record GreatestIsBrought (core : CoreProgram) (rows : List (List Read)) (starts : List ℕ) (most : ℕ) : Type 0 where
  list : List ℕ
  greatest : IsGreatestCoreConsistent core rows starts list
  brought : AreCarried core rows starts most list

still_brought : (most total : ℕ) (core : CoreProgram) (rows : List (List Read)) (starts x : List ℕ) → most ≤ total → IsValueList (length rows) x →
    ((y : List ℕ) → IsCoreConsistent core rows starts y → IsBelow (length rows) y x) → AreCarried core rows starts most x → renewed core rows starts x ≡ x →
    GreatestIsBrought core rows starts total
still_brought most total core rows starts x low values above each still = record {
  list = x;
  greatest = still_greatest core rows starts x values above still;
  brought = λ v inside. longer_carried core rows starts most total v (slice_index x v) low (each v inside);
}

-- Each renewal that changes something lowers the sum, so there are no more renewals than that.
brought_within : (bound most total : ℕ) (core : CoreProgram) (rows : List (List Read)) (starts x : List ℕ) → most + bound ≤ total → sum x ≤ bound → is_mex core.program.fold ≡ false →
    RowsFit (length rows) rows → IsValueList (length rows) x → ((y : List ℕ) → IsCoreConsistent core rows starts y → IsBelow (length rows) y x) →
    AreCarried core rows starts most x → GreatestIsBrought core rows starts total
brought_within zero most total core rows starts x within small plain fits values above each = elim (renewed_falls core rows starts x values) [
  | inl less ↦ absurd (omega arith)
  | inr same ↦ still_brought most total core rows starts x (omega arith) values above each (sym same)
]
brought_within (suc bound) most total core rows starts x within small plain fits values above each = elim (renewed_falls core rows starts x values) [
  | inl less ↦ brought_within bound (suc most) total core rows starts (renewed core rows starts x) (omega (arith, within)) (omega (arith, less, small)) plain fits
      (renewed_values core rows starts x values) (λ y c. below_renewed core rows starts y x plain c values (above y c)) (renewed_carried core rows starts x most plain fits each)
  | inr same ↦ still_brought most total core rows starts x (omega arith) values above each (sym same)
]

-- So each value of the greatest consistent list is brought by some walk, of no more reads than the sum of the start values.
pub core_attained : (core : CoreProgram) (rows : List (List Read)) (starts x : List ℕ) (v : ℕ) → is_mex core.program.fold ≡ false →
    RowsFit (length rows) rows → IsValueList (length rows) starts → IsGreatestCoreConsistent core rows starts x → v < length rows →
    IsCarried core rows starts (sum starts) v (slice_index x v)
core_attained core rows starts x v plain fits valued g inside =
    let end : GreatestIsBrought core rows starts (sum starts) = brought_within (sum starts) 0 (sum starts) core rows starts starts (omega arith) (omega arith) plain fits valued
    (λ y c. below_starts core rows starts y plain c) (λ u within. start_carried core rows starts 0 u within) in
    let same : end.list ≡ x = only_greatest core rows starts end.list x end.greatest g in
    subst (λ (l : List ℕ). IsCarried core rows starts (sum starts) v (slice_index l v)) same (end.brought v inside)
