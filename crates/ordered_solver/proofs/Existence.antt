-- The fixed point: renewing all values at once settles one place of the order more each time.
use Rattle.std.proofs.Common.{◌≡◌, ℕ, zero, suc, ◌+◌, ◌<◌, ◌≤◌, max, List, length, sym, ◌∙◌, arith, inl, inr}
use Rattle.std.specs.Prelude.{All, slice_index}
use Rattle.std.proofs.lemmas.Bool.{cases_lt}
use Rattle.std.proofs.lemmas.List.Elements.{All-weaker}
use Rattle.px_base.specs.declared.TheConstants.{MOST_READS}
use Rattle.px_base.specs.declared.graph.Read.{Read}
use Rattle.px_base.specs.declared.program.Program.{Program}
use Rattle.px_base.specs.Values.{IsValue, IsValueList, by_position}
use Rattle.px_base.specs.Graphs.{HasWeights, RowsFit, read_count, row_at}
use Rattle.px_base.specs.Rules.{pull}
use Rattle.px_base.specs.Laws.{IsOrdered}
use Rattle.px_base.specs.Answers.{IsFixedPoint}
use Rattle.px_base.proofs.Positions.{at_position, length_by_position}
use Rattle.ordered_solver.proofs.Pulled.{pull_agrees, pull_in_range}

abbrev renewed : Program → List (List Read) → List ℕ → List ℕ → List ℕ
renewed p rows starts x = by_position (length rows) (pull p rows starts x)

-- the start values, renewed k times
abbrev renewals : Program → List (List Read) → List ℕ → ℕ → List ℕ
renewals p rows starts zero = starts
renewals p rows starts (suc k) = renewed p rows starts (renewals p rows starts k)

renewed_at : (p : Program) (rows : List (List Read)) (starts x : List ℕ) (v : ℕ) → v < length rows → slice_index (renewed p rows starts x) v ≡ pull p rows starts x v
renewed_at p rows starts x v inside = at_position (length rows) (pull p rows starts x) v 0 inside

renewed_values : (p : Program) (rows : List (List Read)) (starts x : List ℕ) → HasWeights rows → read_count rows ≤ MOST_READS → All IsValue starts → All IsValue x →
    IsValueList (length rows) (renewed p rows starts x)
renewed_values p rows starts x weights few first values = record {
  one_each = length_by_position (length rows) (pull p rows starts x);
  in_range = λ v d below.
      let inside : v < length rows = rw (length_by_position (length rows) (pull p rows starts x)) at below in
      rw (at_position (length rows) (pull p rows starts x) v d inside) (pull_in_range p rows starts x v weights few first values);
}

renewals_are_values : (p : Program) (rows : List (List Read)) (starts : List ℕ) → HasWeights rows → read_count rows ≤ MOST_READS → IsValueList (length rows) starts →
    (k : ℕ) → IsValueList (length rows) (renewals p rows starts k)
renewals_are_values p rows starts weights few first zero = first
renewals_are_values p rows starts weights few first (suc k) =
    renewed_values p rows starts (renewals p rows starts k) weights few first.in_range (renewals_are_values p rows starts weights few first k).in_range

-- a vertex whose place is below k keeps the value that k renewals gave it
settled : (p : Program) (rows : List (List Read)) (starts : List ℕ) (o : IsOrdered rows) (k v : ℕ) → v < length rows → o.place v < k →
    slice_index (renewals p rows starts k) v ≡ slice_index (renewed p rows starts (renewals p rows starts k)) v
settled p rows starts o zero v inside low = absurd (omega (arith, low))
settled p rows starts o (suc k) v inside low =
    renewed_at p rows starts (renewals p rows starts k) v inside
    ∙ pull_agrees p rows starts (renewals p rows starts k) (renewals p rows starts (suc k)) v
    (All-weaker (λ r. (r.source < length rows) × (o.place r.source < o.place v)) (λ r. slice_index (renewals p rows starts k) r.source ≡ slice_index (renewals p rows starts (suc k)) r.source)
    (λ r before. settled p rows starts o k r.source before.0 (omega (arith, before.1, low))) (row_at rows v) (o.before v))
    ∙ sym (renewed_at p rows starts (renewals p rows starts (suc k)) v inside)

-- a number above the places of all n vertices
abbrev above : (ℕ → ℕ) → ℕ → ℕ
above place zero = 0
above place (suc n) = max (above place n) (place n + 1)

above_each : (place : ℕ → ℕ) (n v : ℕ) → v < n → place v < above place n
above_each place zero v inside = absurd (omega arith)
above_each place (suc n) v inside = elim (cases_lt v n) [
  | inl low ↦ omega (arith, above_each place n v low)
  | inr last ↦ (let same : v ≡ n = omega arith in rw same (omega arith))
]

pub one_exists : (p : Program) (rows : List (List Read)) (starts : List ℕ) → IsOrdered rows → RowsFit (length rows) rows → IsValueList (length rows) starts → read_count rows ≤ MOST_READS →
    (x : List ℕ) × IsFixedPoint p rows starts x
one_exists p rows starts o fit first few =
    let last : ℕ = above o.place (length rows) in (
      renewals p rows starts last,
      record {
        values = renewals_are_values p rows starts fit.weights few first last;
        each = λ v inside. settled p rows starts o last v inside (above_each o.place (length rows) v inside) ∙ renewed_at p rows starts (renewals p rows starts last) v inside;
      },
    )
