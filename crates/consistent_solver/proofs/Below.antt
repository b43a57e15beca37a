-- Every consistent list stays at most a list that is renewed, in core values.
use Rattle.std.proofs.Common.{◌≡◌, ℕ, ◌<◌, ◌≤◌, min, Bool, true, false, List, [], ◌∷◌, length, map, get_or, refl, arith, inl, inr}
use Rattle.std.specs.Prelude.{slice_index, All, if◌then◌else◌}
use Rattle.std.specs.List.{AllByRecursion}
use Rattle.std.proofs.lemmas.List.{get_or_past}
use Rattle.std.proofs.lemmas.List.Elements.{recursion_from_All}
use Rattle.std.proofs.lemmas.Bool.{cases_lt}
use Rattle.px_base.specs.declared.graph.Read.{Read}
use Rattle.px_base.specs.declared.program.CoreProgram.{CoreProgram}
use Rattle.px_base.specs.Values.{IsValue, IsValueList}
use Rattle.px_base.specs.Graphs.{row_at}
use Rattle.px_base.specs.Classes.{is_mex}
use Rattle.px_base.specs.Core.{core_edge_value, core_pull}
use Rattle.px_base.specs.Rules.{least}
use Rattle.px_base.proofs.Positions.{at_position}
use Rattle.px_base.proofs.Gathers.{least_below_start}
use Rattle.value_laws.specs.EdgeLaws.{core_monotone}
use Rattle.consistent_solver.specs.CoreLists.{IsBelow, IsCoreConsistent, gathered_at, renewed, renewed_at, renewed_where}

-- ---- values at any place

-- past its end a list has 0 at every place
pub value_anywhere : (n : ℕ) (x : List ℕ) (v : ℕ) → IsValueList n x → IsValue (slice_index x v)
value_anywhere n x v values = elim (cases_lt v (length x)) [
  | inl inside ↦ values.in_range v 0 inside
  | inr past ↦ rw (get_or_past x v 0 past) (omega arith)
]

-- a list of n entries that is below another at each of n positions is below it everywhere
pub below_anywhere : (n : ℕ) (y x : List ℕ) (v : ℕ) → length y ≡ n → IsBelow n y x → slice_index y v ≤ slice_index x v
below_anywhere n y x v sized below = elim (cases_lt v n) [
  | inl inside ↦ below v inside
  | inr past ↦ (let outside : length y ≤ v = omega (arith, past, sized) in rw (get_or_past y v 0 outside) (omega arith))
]

-- ---- what is gathered

-- of two starts and two rows of items the greater ones have the greater least
least_grows : (f g : Read → ℕ) (row : List Read) (s t : ℕ) → s ≤ t → AllByRecursion (λ r. f r ≤ g r) row → least s (map f row) ≤ least t (map g row)
least_grows f g [] s t low each = low
least_grows f g (r ∷ row) s t low each = least_grows f g row (min s (f r)) (min t (g r)) (omega (arith, low, each.0)) each.1

-- a program that isn't of the mex gathers the least
pub least_gathered : (core : CoreProgram) (value_at : ℕ → ℕ) (start : ℕ) (row : List Read) → is_mex core.program.fold ≡ false →
    core_pull core value_at start row ≡ least start (map (λ r. core_edge_value core (value_at r.source) r.weight) row)
least_gathered core value_at start row plain = rw plain refl

-- of greater values that are read the greater one is gathered
pub pull_grows : (core : CoreProgram) (f g : ℕ → ℕ) (start : ℕ) (row : List Read) → is_mex core.program.fold ≡ false →
    All (λ r. f r.source ≤ g r.source) row → All (λ r. IsValue (g r.source)) row → core_pull core f start row ≤ core_pull core g start row
pull_grows core f g start row plain below values =
    rw (least_gathered core f start row plain, least_gathered core g start row plain)
    (least_grows (λ r. core_edge_value core (f r.source) r.weight) (λ r. core_edge_value core (g r.source) r.weight) row start start (omega arith)
    (recursion_from_All (λ r. core_edge_value core (f r.source) r.weight ≤ core_edge_value core (g r.source) r.weight) row
    (λ k d inside. core_monotone core (f (get_or row k d).source) (g (get_or row k d).source) (get_or row k d).weight (values k d inside) (below k d inside))))

-- so a greater list is gathered to greater values
pub gathered_grows : (core : CoreProgram) (rows : List (List Read)) (starts y x : List ℕ) (v : ℕ) → is_mex core.program.fold ≡ false →
    length y ≡ length rows → IsValueList (length rows) x → IsBelow (length rows) y x → gathered_at core rows starts y v ≤ gathered_at core rows starts x v
gathered_grows core rows starts y x v plain sized values below =
    pull_grows core (slice_index y) (slice_index x) (slice_index starts v) (row_at rows v) plain
    (λ k d inside. below_anywhere (length rows) y x (get_or (row_at rows v) k d).source sized below)
    (λ k d inside. value_anywhere (length rows) x (get_or (row_at rows v) k d).source values)

-- what is gathered is at most the start value
pub gathered_below_start : (core : CoreProgram) (rows : List (List Read)) (starts x : List ℕ) (v : ℕ) → is_mex core.program.fold ≡ false →
    gathered_at core rows starts x v ≤ slice_index starts v
gathered_below_start core rows starts x v plain =
    rw (least_gathered core (slice_index x) (slice_index starts v) (row_at rows v) plain)
    (least_below_start (slice_index starts v) (map (λ r. core_edge_value core (slice_index x r.source) r.weight) (row_at rows v)))

-- ---- consistent lists

-- a consistent list is below the starts
pub below_starts : (core : CoreProgram) (rows : List (List Read)) (starts y : List ℕ) → is_mex core.program.fold ≡ false →
    IsCoreConsistent core rows starts y → IsBelow (length rows) y starts
below_starts core rows starts y plain c v inside = omega (arith, c.each v inside, gathered_below_start core rows starts y v plain)

-- it is below what a vertex gathers from any values above it, new ones or old ones
pub below_gathered : (core : CoreProgram) (rows : List (List Read)) (starts y : List ℕ) (value_at : ℕ → ℕ) (v : ℕ) → is_mex core.program.fold ≡ false →
    IsCoreConsistent core rows starts y → v < length rows →
    All (λ r. slice_index y r.source ≤ value_at r.source) (row_at rows v) → All (λ r. IsValue (value_at r.source)) (row_at rows v) →
    slice_index y v ≤ core_pull core value_at (slice_index starts v) (row_at rows v)
below_gathered core rows starts y value_at v plain c inside below values =
    omega (arith, c.each v inside, pull_grows core (slice_index y) value_at (slice_index starts v) (row_at rows v) plain below values)

-- so it is below the new value of a vertex
below_renewed_at : (core : CoreProgram) (rows : List (List Read)) (starts y x : List ℕ) (v : ℕ) → is_mex core.program.fold ≡ false →
    IsCoreConsistent core rows starts y → IsValueList (length rows) x → IsBelow (length rows) y x → v < length rows → slice_index y v ≤ renewed_at core rows starts x v
below_renewed_at core rows starts y x v plain c values below inside =
    omega (arith, c.each v inside, gathered_grows core rows starts y x v plain c.values.one_each values below, below v inside)

-- so it stays below a list when some vertices are renewed
pub below_renewed_where : (chosen : ℕ → Bool) (core : CoreProgram) (rows : List (List Read)) (starts y x : List ℕ) → is_mex core.program.fold ≡ false →
    IsCoreConsistent core rows starts y → IsValueList (length rows) x → IsBelow (length rows) y x → IsBelow (length rows) y (renewed_where chosen core rows starts x)
below_renewed_where chosen core rows starts y x plain c values below v inside =
    rw (at_position (length rows) (λ u. if chosen u then renewed_at core rows starts x u else slice_index x u) v 0 inside) (by_choice (chosen v))
  where
    by_choice : (b : Bool) → slice_index y v ≤ (if b then renewed_at core rows starts x v else slice_index x v)
    by_choice true = below_renewed_at core rows starts y x v plain c values below inside
    by_choice false = below v inside

-- and when all are
pub below_renewed : (core : CoreProgram) (rows : List (List Read)) (starts y x : List ℕ) → is_mex core.program.fold ≡ false →
    IsCoreConsistent core rows starts y → IsValueList (length rows) x → IsBelow (length rows) y x → IsBelow (length rows) y (renewed core rows starts x)
below_renewed core rows starts y x plain c values below = below_renewed_where (λ v. true) core rows starts y x plain c values below
