-- Numbers stamped in a table, and the least one that isn't.
use Rattle.std.proofs.Common.{◌≡◌, ℕ, zero, suc, ◌+◌, ◌<◌, ◌≤◌, ◌≢◌, ◌∙◌, true, false, List, length, get_or, refl, sym, inl, inr, arith, eq-eqb}
use Rattle.std.specs.Prelude.{slice_index}
use Rattle.std.proofs.lemmas.Bool.{cases_lt}
use Rattle.std.proofs.lemmas.List.{length-map}
use Rattle.px_base.specs.declared.program.CoreProgram.{CoreProgram}
use Rattle.px_base.specs.Values.{is_listed}
use Rattle.px_base.specs.Core.{core_edge_value}
use Rattle.px_base.specs.Rules.{mex, first_absent}
use Rattle.px_base.proofs.Listed.{not_equal}
use Rattle.px_base.specs.declared.graph.Read.{Read}
use Rattle.worker_world.specs.Placed.{placed_items}
use Rattle.worker_world.specs.Stamped.{IsStamped}

-- ---- the least absent number

absent_at : (steps from : ℕ) (items : List ℕ) (m : ℕ) → from ≤ m → m ≤ from + steps → ((k : ℕ) → k < m → is_listed items k ≡ true) → (m < from + steps → is_listed items m ≡ false) → first_absent steps from items ≡ m
absent_at zero from items m low high before at = omega arith
absent_at (suc steps) from items m low high before at = elim (cases_lt from m) [
  | inl more ↦ rw (before from more) (absent_at steps (from + 1) items m (omega arith) (omega arith) before (λ below. at (omega arith)))
  | inr here ↦ (let same : from ≡ m = omega arith in rw (same, at (omega arith)) refl)
]

pub mex_is_unstamped : (items marks : List ℕ) (stamp m : ℕ) → IsStamped stamp items marks → length items ≤ length marks → m ≤ length items →
    ((k : ℕ) → k < m → get_or marks k 0 ≡ stamp) → (m < length items → get_or marks m 0 ≢ stamp) → m ≡ mex items
mex_is_unstamped items marks stamp m stamped room within before at =
    sym (absent_at (length items) 0 items m (omega arith) (omega arith)
    (λ k below. sym (stamped k (omega arith)) ∙ eq-eqb (get_or marks k 0) stamp (before k below))
    (λ below. sym (stamped m (omega arith)) ∙ not_equal (get_or marks m 0) stamp (at (omega arith))))

pub length_items : (core : CoreProgram) (values : List ℕ) (row : List Read) → length (placed_items core values row) ≡ length row
length_items core values row = length-map row (λ r. core_edge_value core (slice_index values r.source) r.weight)
