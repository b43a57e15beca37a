-- The parts of a sound job fit, and so do the worlds that are made and stepped on them.
use Rattle.std.proofs.Common.{◌≡◌, ℕ, ◌<◌, ◌≤◌, List, None, Option, Some, length, arith, refl, subst, sym}
use Rattle.std.specs.Prelude.{All, Ok}
use Rattle.px_base.specs.declared.graph.Part.{Part}
use Rattle.px_base.specs.declared.graph.Read.{Read}
use Rattle.px_base.specs.declared.wire.Order.{Order}
use Rattle.px_base.specs.declared.TheConstants.{TOP}
use Rattle.px_base.specs.Values.{IsWeight}
use Rattle.px_base.specs.Graphs.{HasWeights, read_count}
use Rattle.px_base.specs.Parts.{IsWorkerCuts, PartFits, high_of, low_of, part_count, part_of}
use Rattle.px_base.specs.ValueSteps.{value_step}
use Rattle.px_base.specs.CountSteps.{count_step}
use Rattle.px_base.specs.Worlds.{CarriesValues, Refusal, StepOutcome, World, new_world, of_counts, of_values, refusal_of, takes_update, updates_in}
use Rattle.px_base.specs.WorldSteps.{world_step}
use Rattle.partitioner.proofs.Fitting.{fewer_reads, part_fits, part_holds}
use Rattle.hub_terms.specs.InStep.{IsWorldOf}
use Rattle.hub_terms.specs.Jobs.{IsSound, Job}
use Rattle.step_laws.proofs.WorldSteps.{new_world_is, outcome_of, world_stays}

-- ---- the parts

module _ (job : Job) (cuts : List ℕ) (i : ℕ) (sound : IsSound job) where
  abbrev part : Part
  part = part_of job.rows job.starts cuts i

  pub job_part_fits : IsWorkerCuts (length job.rows) cuts → i < part_count cuts → PartFits part
  job_part_fits cut inside = part_fits (length job.rows) job.rows job.starts cuts i sound.vertices sound.rows sound.starts.one_each sound.starts.in_range cut inside

  pub job_part_weights : HasWeights part.rows
  job_part_weights = part_holds (λ (row : List Read). All (λ (r : Read). IsWeight r.weight) row) job.rows (low_of cuts i) (high_of cuts i) sound.rows.weights

  pub job_part_short : read_count part.rows ≤ TOP
  job_part_short = omega (arith, fewer_reads job.rows (low_of cuts i) (high_of cuts i), sound.reads)

-- ---- the worlds

pub new_worlds_fit : (job : Job) (cuts : List ℕ) (i : ℕ) → IsSound job → IsWorkerCuts (length job.rows) cuts → i < part_count cuts → IsWorldOf (part_of job.rows job.starts cuts i) job.core (new_world (part_of job.rows job.starts cuts i) job.core)
new_worlds_fit job cuts i sound cut inside = new_world_is (part_of job.rows job.starts cuts i) job.core (job_part_fits job cuts i sound cut inside) (job_part_weights job cuts i sound)

-- a step that isn't refused leaves its outcome
left : (w : World) (order : Order) (outcome : StepOutcome World) → world_step w order ≡ Ok outcome → outcome ≡ outcome_of w order
left (of_values w) order outcome is = by_refusal (refusal_of w.epoch (takes_update (of_values w)) order) refl
  where
    by_refusal : (r : Option Refusal) → refusal_of w.epoch (takes_update (of_values w)) order ≡ r → outcome ≡ outcome_of (of_values w) order
    by_refusal None none = cc (rw (value_step, none) at is)
    by_refusal (Some refusal) some = absurd (cc (rw (value_step, some) at is))
left (of_counts w) order outcome is = by_refusal (refusal_of w.epoch (takes_update (of_counts w)) order) refl
  where
    by_refusal : (r : Option Refusal) → refusal_of w.epoch (takes_update (of_counts w)) order ≡ r → outcome ≡ outcome_of (of_counts w) order
    by_refusal None none = cc (rw (count_step, none) at is)
    by_refusal (Some refusal) some = absurd (cc (rw (count_step, some) at is))

pub stepped_worlds_fit : (job : Job) (cuts : List ℕ) (i : ℕ) (w : World) (order : Order) (outcome : StepOutcome World) → IsSound job → IsWorldOf (part_of job.rows job.starts cuts i) job.core w →
    CarriesValues (updates_in order) → world_step w order ≡ Ok outcome → IsWorldOf (part_of job.rows job.starts cuts i) job.core outcome.world
stepped_worlds_fit job cuts i w order outcome sound is each stepped =
    subst (λ (o : StepOutcome World). IsWorldOf (part_of job.rows job.starts cuts i) job.core o.world) (sym (left w order outcome stepped))
    (world_stays (part_of job.rows job.starts cuts i) job.core w order (job_part_short job cuts i sound) each is)
