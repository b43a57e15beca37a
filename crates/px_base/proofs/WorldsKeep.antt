-- What every step of a world of values keeps: its part fits, and there is a value for each master and mirror.
use Rattle.std.proofs.Common.{[], ◌≡◌, ℕ, zero, suc, ◌+◌, ◌-◌, ◌<◌, ◌≤◌, ◌∙◌, Bool, true, false, min, List, ◌∷◌, length, get_or, arith, inl, inr}
use Rattle.std.specs.Prelude.{◌==◌, All, slice_index, if◌then◌else◌, map, replicate}
use Rattle.std.proofs.lemmas.List.{length-map, length-replicate, get_or-replicate}
use Rattle.std.proofs.lemmas.Grind.{common_steps}
use Rattle.std.proofs.lemmas.List.Sums.{get_or-le-sum_by}
use Rattle.std.proofs.lemmas.Bool.{cases_lt}
use Rattle.px_base.specs.declared.TheConstants.{TOP}
use Rattle.px_base.specs.declared.graph.Part.{Part}
use Rattle.px_base.specs.declared.graph.Read.{Read}
use Rattle.px_base.specs.declared.program.CoreProgram.{CoreProgram}
use Rattle.px_base.specs.declared.wire.Update.{Update}
use Rattle.px_base.specs.declared.wire.Order.{Order}
use Rattle.px_base.specs.declared.wire.Order.TheVariants.{Step, Report}
use Rattle.px_base.specs.Values.{IsValue, IsValueList, by_position, is_listed}
use Rattle.px_base.specs.Graphs.{HasWeights, row_at, read_count}
use Rattle.px_base.specs.Classes.{is_mex, keeps}
use Rattle.px_base.specs.Core.{core_edge_value, core_pull}
use Rattle.px_base.specs.Parts.{PartFits}
use Rattle.px_base.specs.Pulls.{known_value, master_pull}
use Rattle.px_base.specs.Rules.{least, mex, first_absent}
use Rattle.px_base.specs.Worlds.{ValueWorld, ValueWorldFits, CarriesValues, updates_in, new_value_world}
use Rattle.px_base.specs.ValueSteps.{newest_value, updated_mirrors, renewed_value, renewed_masters, order_outcome}
use Rattle.px_base.proofs.Gathers.{least_below_start}
use Rattle.px_base.proofs.Positions.{length_by_position, at_position}

-- ---- the mirrors

pub newest_is_value : (updates : List Update) (m old : ℕ) → CarriesValues updates → IsValue old → IsValue (newest_value updates m old)
newest_is_value [] m old each known = known
newest_is_value (u ∷ us) m old each known = newest_is_value us m (if u.vertex == m then u.value else old) (λ k d below. each (suc k) d (omega arith)) (newer (u.vertex == m))
  where
    newer : (b : Bool) → IsValue (if b then u.value else old)
    newer true = each 0 u (omega arith)
    newer false = known

pub updated_fit : (mirrors : List ℕ) (updates : List Update) (n : ℕ) (values : List ℕ) → CarriesValues updates → IsValueList n values → IsValueList n (updated_mirrors mirrors updates values)
updated_fit mirrors updates n values each old =
    let newest : ℕ → ℕ = λ k. newest_value updates (slice_index mirrors k) (slice_index values k) in
    let count : length (by_position (length values) newest) ≡ length values = length_by_position (length values) newest in
    record {
      one_each = count ∙ old.one_each;
      in_range = λ k d below. (let inside : k < length values = omega (arith, count, below) in
          rw (at_position (length values) newest k d inside) (newest_is_value updates (slice_index mirrors k) (slice_index values k) each (old.in_range k 0 inside)));
    }

-- ---- the masters

first_absent_within : (steps k : ℕ) (items : List ℕ) → first_absent steps k items ≤ k + steps
first_absent_within zero k items = omega arith
first_absent_within (suc steps) k items = by_test (is_listed items k) (first_absent_within steps (k + 1) items)
  where
    by_test : (b : Bool) → first_absent steps (k + 1) items ≤ k + 1 + steps → (if b then first_absent steps (k + 1) items else k) ≤ k + suc steps
    by_test true rest = omega (arith, rest)
    by_test false rest = omega arith

-- a master gathers at most its start value, or by the mex at most as many as it reads
pub pull_is_value : (core : CoreProgram) (value_at : ℕ → ℕ) (start : ℕ) (row : List Read) → length row ≤ TOP → IsValue start → IsValue (core_pull core value_at start row)
pull_is_value core value_at start row short known = by_fold (is_mex core.program.fold)
  where
    items : List ℕ
    items = map (λ r. core_edge_value core (value_at r.source) r.weight) row

    by_fold : (b : Bool) → IsValue (if b then mex items else least start items)
    by_fold true = let same : length items ≡ length row = simp length-map in omega (arith, first_absent_within (length items) 0 items, short, same)
    by_fold false = omega (arith, least_below_start start items, known)

pub renewed_is_value : (core : CoreProgram) (value pulled : ℕ) → IsValue pulled → IsValue (renewed_value core value pulled)
renewed_is_value core value pulled known = by_own (keeps core.program.own)
  where
    by_own : (b : Bool) → IsValue (if b then min value pulled else pulled)
    by_own true = omega (arith, known)
    by_own false = known

past_end : (rows : List (List Read)) (k : ℕ) → length rows ≤ k → get_or rows k [] ≡ []
past_end rows k past = grind (arith, common_steps)

row_within : (rows : List (List Read)) (k : ℕ) → length (row_at rows k) ≤ read_count rows
row_within rows k = elim (cases_lt k (length rows)) [
  | inl inside ↦ get_or-le-sum_by (λ row. length row) rows k [] inside
  | inr past ↦ rw (past_end rows k past) (omega arith)
]

pub renewed_fit : (part : Part) (core : CoreProgram) (masters mirrors : List ℕ) → read_count part.rows ≤ TOP → PartFits part → IsValueList (part.high - part.low) (renewed_masters part core masters mirrors)
renewed_fit part core masters mirrors short fits =
    let renewed : ℕ → ℕ = λ k. renewed_value core (slice_index masters k) (master_pull part core masters mirrors k) in
    let count : length (by_position (length part.rows) renewed) ≡ length part.rows = length_by_position (length part.rows) renewed in
    record {
      one_each = count ∙ fits.rows;
      in_range = λ k d below. (let inside : k < length part.rows = omega (arith, count, below) in
          rw (at_position (length part.rows) renewed k d inside)
          (renewed_is_value core (slice_index masters k) (master_pull part core masters mirrors k)
          (pull_is_value core (known_value part masters mirrors) (slice_index part.starts k) (row_at part.rows k) (omega (arith, row_within part.rows k, short)) (fits.values k 0 (omega (arith, fits.rows, fits.starts))))));
    }

-- ---- what is announced

-- a list of values has one at any place; past its end that is 0
pub at_any_place : (values : List ℕ) (k : ℕ) → All IsValue values → IsValue (get_or values k 0)
at_any_place values k known = elim (cases_lt k (length values)) [ inl inside ↦ known k 0 inside | inr past ↦ rw (nothing_there values k past) (omega arith) ]
  where
    nothing_there : (values : List ℕ) (k : ℕ) → length values ≤ k → get_or values k 0 ≡ 0
    nothing_there values k past = grind (arith, common_steps)

-- ---- the world

-- a world that fits still fits after any order that carries values
pub step_fits : (w : ValueWorld) (order : Order) → read_count w.part.rows ≤ TOP → ValueWorldFits w → CarriesValues (updates_in order) → ValueWorldFits (order_outcome w order).world
step_fits w (Step epoch round updates) short fits each =
    let mirrors : List ℕ = updated_mirrors w.part.mirrors updates w.mirrors in
    record {
      part = fits.part;
      weights = fits.weights;
      masters = renewed_fit w.part w.core w.masters mirrors short fits.part;
      mirrors = updated_fit w.part.mirrors updates (length w.part.mirrors) w.mirrors each fits.mirrors;
    }
step_fits w (Report epoch) short fits each = fits

zeros_fit : (n : ℕ) → IsValueList n (replicate n 0)
zeros_fit n = record { one_each = length-replicate n 0; in_range = λ k d below. (let inside : k < n = omega (arith, below, length-replicate {A = ℕ} n 0) in rw (get_or-replicate n k 0 d inside) (omega arith)) }

-- a new world of a part that fits does as well
pub new_world_fits : (part : Part) (core : CoreProgram) → PartFits part → HasWeights part.rows → ValueWorldFits (new_value_world part core)
new_world_fits part core fits weights = record {
  part = fits;
  weights = weights;
  masters = by_own (keeps core.program.own) (part.high - part.low) part.starts fits.starts fits.values;
  mirrors = by_own (keeps core.program.own) (length part.mirrors) part.mirror_starts fits.mirror_starts fits.mirror_values;
}
  where
    by_own : (b : Bool) (n : ℕ) (starts : List ℕ) → length starts ≡ n → All IsValue starts → IsValueList n (if b then starts else replicate (length starts) 0)
    by_own true n starts count known = record { one_each = count; in_range = known }
    by_own false n starts count known = rw count (zeros_fit n)
