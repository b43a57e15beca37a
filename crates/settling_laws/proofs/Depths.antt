-- Where the reads are in some order, no chain of reads is longer than there are vertices, and there is one right list.
use Rattle.std.proofs.Common.{◌≡◌, ℕ, zero, suc, ◌<◌, ◌≤◌, true, List, [], ◌∷◌, length, map, get_or, refl, sym, ap, ◌∙◌, arith, inl, inr}
use Rattle.std.specs.Prelude.{nat_lt, slice_index, All}
use Rattle.std.specs.List.{AllByRecursion}
use Rattle.std.proofs.lemmas.Bool.{lt-ltb, ltb-true}
use Rattle.std.proofs.lemmas.List.Elements.{recursion_from_All, All-nil}
use Rattle.px_base.specs.declared.graph.Read.{Read}
use Rattle.px_base.specs.declared.program.CoreProgram.{CoreProgram}
use Rattle.px_base.specs.Values.{by_position}
use Rattle.px_base.specs.Graphs.{row_at}
use Rattle.px_base.specs.Core.{core_edge_value, core_pull, core_gather}
use Rattle.px_base.specs.Laws.{IsOrdered}
use Rattle.px_base.proofs.Positions.{at_position}
use Rattle.consistent_solver.specs.CoreLists.{gathered_at}
use Rattle.hub_terms.specs.Jobs.{Job}
use Rattle.settling_laws.specs.Settling.{IsShallow, IsGathered}
use Rattle.settling_laws.proofs.Numbers.{count_below, count_most, fewer}

-- ---- what agrees on the sources of a row is gathered the same

pub pull_agrees : (core : CoreProgram) (f g : ℕ → ℕ) (start : ℕ) (row : List Read) → All (λ r. f r.source ≡ g r.source) row → core_pull core f start row ≡ core_pull core g start row
pull_agrees core f g start row each = ap (core_gather core start) (same_items row (recursion_from_All (λ r. f r.source ≡ g r.source) row each))
  where
    same_items : (row : List Read) → AllByRecursion (λ r. f r.source ≡ g r.source) row → map (λ r. core_edge_value core (f r.source) r.weight) row ≡ map (λ r. core_edge_value core (g r.source) r.weight) row
    same_items [] each = refl
    same_items (r ∷ row) each = ap (λ (ys : List ℕ). core_edge_value core (f r.source) r.weight ∷ ys) (same_items row each.1) ∙ ap (λ y. core_edge_value core y r.weight ∷ map (λ r. core_edge_value core (g r.source) r.weight) row) each.0

-- ---- no chain is longer

module _ (rows : List (List Read)) (o : IsOrdered rows) where
  -- how many vertices stand before v
  abbrev rank : ℕ → ℕ
  rank v = count_below (length rows) (λ u. nat_lt (o.place u) (o.place v))

  rank_grows : (u v : ℕ) → u < length rows → o.place u < o.place v → rank u < rank v
  rank_grows u v inside before = elim (fewer (length rows) (λ w. nat_lt (o.place w) (o.place u)) (λ w. nat_lt (o.place w) (o.place v)) more) [
    | inl less ↦ less
    | inr same ↦ absurd (omega (arith, ltb-true (o.place u) (o.place u) (same.1 u inside (lt-ltb (o.place u) (o.place v) before))))
  ]
    where
      more : (w : ℕ) → w < length rows → nat_lt (o.place w) (o.place u) ≡ true → nat_lt (o.place w) (o.place v) ≡ true
      more w within is = let less : o.place w < o.place u = ltb-true (o.place w) (o.place u) is in lt-ltb (o.place w) (o.place v) (omega (arith, less, before))

  by_rank : (k v : ℕ) → rank v ≤ k → IsShallow rows k v
  by_rank zero v low = by_row (row_at rows v) (o.before v)
    where
      by_row : (row : List Read) → All (λ r. (r.source < length rows) × (o.place r.source < o.place v)) row → row ≡ []
      by_row [] each = refl
      by_row (r ∷ row) each = let first = each 0 r (omega arith) in absurd (omega (arith, low, rank_grows r.source v first.0 first.1))
  by_rank (suc k) v low = λ m d within. (let is = o.before v m d within in
      by_rank k (get_or (row_at rows v) m d).source (omega (arith, low, rank_grows (get_or (row_at rows v) m d).source v is.0 is.1)))

  -- not all stand before v, since v itself doesn't
  rank_low : (v : ℕ) → v < length rows → rank v < length rows
  rank_low v inside = elim (fewer (length rows) (λ u. nat_lt (o.place u) (o.place v)) (λ u. true) (λ u within is. refl)) [
    | inl less ↦ omega (arith, less, count_most (length rows) (λ u. true))
    | inr same ↦ absurd (omega (arith, ltb-true (o.place v) (o.place v) (same.1 v inside refl)))
  ]

  pub all_shallow : (k v : ℕ) → v < length rows → length rows ≤ suc k → IsShallow rows k v
  all_shallow k v inside enough = by_rank k v (omega (arith, enough, rank_low v inside))

-- ---- the right list

module _ (job : Job) (o : IsOrdered job.rows) where
  abbrev n : ℕ
  n = length job.rows

  -- the start values, after each vertex gathered so many times
  abbrev gathered_times : ℕ → List ℕ
  gathered_times zero = job.starts
  gathered_times (suc k) = by_position n (gathered_at job.core job.rows job.starts (gathered_times k))

  once_more : (k v : ℕ) → v < n → slice_index (gathered_times (suc k)) v ≡ gathered_at job.core job.rows job.starts (gathered_times k) v
  once_more k v inside = at_position n (gathered_at job.core job.rows job.starts (gathered_times k)) v 0 inside

  abbrev AreSame : ℕ → ℕ → Type 0
  AreSame k v = All (λ r. slice_index (gathered_times k) r.source ≡ slice_index (gathered_times (suc k)) r.source) (row_at job.rows v)

  one_step : (k v : ℕ) → v < n → AreSame k v → slice_index (gathered_times (suc k)) v ≡ slice_index (gathered_times (suc (suc k))) v
  one_step k v inside same = once_more k v inside ∙ (pull_agrees job.core (slice_index (gathered_times k)) (slice_index (gathered_times (suc k))) (slice_index job.starts v) (row_at job.rows v) same ∙ sym (once_more (suc k) v inside))

  stays : (k v : ℕ) → v < n → IsShallow job.rows k v → slice_index (gathered_times (suc k)) v ≡ slice_index (gathered_times (suc (suc k))) v
  stays zero v inside none = one_step zero v inside (rw none (All-nil (λ r. slice_index (gathered_times zero) r.source ≡ slice_index (gathered_times (suc zero)) r.source)))
  stays (suc k) v inside each = one_step (suc k) v inside (λ m d within. stays k (get_or (row_at job.rows v) m d).source (o.before v m d within).0 (each m d within))

  pub right_list : (b : List ℕ) × IsGathered job b
  right_list = (gathered_times (suc n), λ v inside. stays n v inside (all_shallow job.rows o n v inside (omega arith)) ∙ once_more (suc n) v inside)
