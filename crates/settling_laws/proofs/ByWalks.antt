-- The value after k renewals is the least that a walk of at most k reads brings.
use Rattle.std.proofs.Common.{◌≡◌, ℕ, zero, suc, ◌+◌, ◌-◌, ◌<◌, ◌≤◌, false, List, [], ◌∷◌, length, sym, ap, subst, ◌∙◌, arith}
use Rattle.std.specs.Prelude.{slice_index}
use Rattle.px_base.specs.declared.program.Class.TheVariants.{LocallyCorrecting}
use Rattle.px_base.specs.Values.{IsValue, IsValueList}
use Rattle.px_base.specs.Graphs.{RowsFit}
use Rattle.px_base.specs.Classes.{is_mex}
use Rattle.px_base.specs.Core.{core_edge_value}
use Rattle.px_base.proofs.Positions.{at_position}
use Rattle.value_laws.specs.EdgeLaws.{core_in_range, core_monotone}
use Rattle.consistent_solver.specs.CoreLists.{renewed_at, renewed_times}
use Rattle.consistent_solver.proofs.Below.{value_anywhere}
use Rattle.consistent_solver.proofs.Reaching.{renewed_last, renewed_values}
use Rattle.consistent_solver.proofs.Turning.{no_mex}
use Rattle.hub_terms.specs.Jobs.{Job}
use Rattle.settling_laws.specs.Settling.{IsSoundAs, value_after}
use Rattle.walk_terms.specs.Walks.{HasRead, IsWalk, core_carried, IsCarried}
use Rattle.walk_terms.proofs.ReadEnds.{reader_inside, weight_fits, gathered_below_read}
use Rattle.walk_terms.proofs.Carried.{start_carried, renewed_carried}

module _ (job : Job) (plain : is_mex job.core.program.fold ≡ false) (fits : RowsFit (length job.rows) job.rows) (valued : IsValueList (length job.rows) job.starts) where
  abbrev n : ℕ
  n = length job.rows

  abbrev after : ℕ → List ℕ
  after k = renewed_times k job.core job.rows job.starts job.starts

  after_list : (k : ℕ) → IsValueList n (after k)
  after_list zero = valued
  after_list (suc k) = rw (renewed_last k job.core job.rows job.starts job.starts) (renewed_values job.core job.rows job.starts (after k) (after_list k))

  next_is : (k v : ℕ) → v < n → slice_index (after (suc k)) v ≡ renewed_at job.core job.rows job.starts (after k) v
  next_is k v inside = ap (λ (l : List ℕ). slice_index l v) (renewed_last k job.core job.rows job.starts job.starts) ∙ at_position n (renewed_at job.core job.rows job.starts (after k)) v 0 inside

  -- ---- no walk brings less

  read_low : (k v u w : ℕ) → HasRead job.rows v u w → slice_index (after (suc k)) v ≤ core_edge_value job.core (slice_index (after k) u) w
  read_low k v u w read = omega (arith, next_is k v (reader_inside job.rows v u w read), gathered_below_read job.core job.rows job.starts (after k) v u w plain read)

  -- after all reads of the walk
  along : (k end u v y : ℕ) (weights : List ℕ) → length weights + k ≡ end → IsWalk job.rows u v weights → slice_index (after k) u ≤ y → IsValue y → slice_index (after end) v ≤ core_carried job.core y weights
  along k end u v y [] ends here low known =
      let same : k ≡ end = omega (arith, ends) in
      subst (λ (l : ℕ). slice_index (after l) v ≤ y) same (subst (λ (a : ℕ). slice_index (after k) a ≤ y) here low)
  along k end u v y (w ∷ weights) ends (next, read, rest) low known =
      let grown : core_edge_value job.core (slice_index (after k) u) w ≤ core_edge_value job.core y w = core_monotone job.core (slice_index (after k) u) y w known low in
      let first : slice_index (after (suc k)) next ≤ core_edge_value job.core y w = omega (arith, read_low k next u w read, grown) in
      along (suc k) end next v (core_edge_value job.core y w) weights (omega (arith, ends)) rest first (core_in_range job.core y w known (weight_fits job.rows next u w fits read))

  falls : (more k end v : ℕ) → more + k ≡ end → v < n → slice_index (after end) v ≤ slice_index (after k) v
  falls zero k end v ends inside = let same : k ≡ end = omega (arith, ends) in subst (λ (l : ℕ). slice_index (after l) v ≤ slice_index (after k) v) same (omega arith)
  falls (suc more) k end v ends inside = omega (arith, next_is k v inside, falls more (suc k) end v (omega (arith, ends)) inside)

  pub none_lower : (k u v : ℕ) (weights : List ℕ) → v < n → IsWalk job.rows u v weights → length weights ≤ k → value_after job k v ≤ core_carried job.core (slice_index job.starts u) weights
  none_lower k u v weights inside walk short =
      let along_it : slice_index (after (length weights)) v ≤ core_carried job.core (slice_index job.starts u) weights =
      along 0 (length weights) u v (slice_index job.starts u) weights (omega arith) walk (omega arith) (value_anywhere n job.starts u valued) in
      omega (arith, along_it, falls (k - length weights) (length weights) k v (omega (arith, short)) inside)

  -- ---- some walk brings it

  pub some_brings : (k v : ℕ) → v < n → IsCarried job.core job.rows job.starts k v (value_after job k v)
  some_brings zero v inside = start_carried job.core job.rows job.starts 0 v inside
  some_brings (suc k) v inside = subst (λ (l : List ℕ). IsCarried job.core job.rows job.starts (suc k) v (slice_index l v)) (sym (renewed_last k job.core job.rows job.starts job.starts))
      (renewed_carried job.core job.rows job.starts (after k) k plain fits (some_brings k) v inside)

-- ---- of a sound job

pub sound_none_lower : (job : Job) (k u v : ℕ) (weights : List ℕ) → IsSoundAs LocallyCorrecting job → v < length job.rows → IsWalk job.rows u v weights → length weights ≤ k →
    value_after job k v ≤ core_carried job.core (slice_index job.starts u) weights
sound_none_lower job k u v weights job_is inside walk short = none_lower job (no_mex job.core.program job_is.of_class) job_is.sound.rows job_is.sound.starts k u v weights inside walk short

pub sound_some_brings : (job : Job) (k v : ℕ) → IsSoundAs LocallyCorrecting job → v < length job.rows → IsCarried job.core job.rows job.starts k v (value_after job k v)
sound_some_brings job k v job_is inside = some_brings job (no_mex job.core.program job_is.of_class) job_is.sound.rows job_is.sound.starts k v inside
