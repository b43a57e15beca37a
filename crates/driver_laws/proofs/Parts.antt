-- A link can be started on each part of a sound job.
use Rattle.std.proofs.Common.{◌≡◌, ℕ, ◌<◌, ◌≤◌, List, length, get_or, arith, ap, ◌∙◌}
use Rattle.std.specs.List.Sorted.{IsSortedBy}
use Rattle.px_base.specs.declared.graph.Part.{Part}
use Rattle.px_base.specs.declared.graph.Read.{Read}
use Rattle.px_base.specs.declared.program.CoreProgram.{CoreProgram}
use Rattle.px_base.specs.Graphs.{is_lower_read}
use Rattle.px_base.specs.Parts.{high_of, low_of}
use Rattle.px_base.specs.Values.{by_position}
use Rattle.px_base.proofs.Positions.{at_position, length_by_position}
use Rattle.partitioner.proofs.Fitting.{fewer_reads, part_holds}
use Rattle.step_laws.proofs.JobParts.{job_part_fits, job_part_weights}
use Rattle.hub_terms.specs.Hubs.{worker_count}
use Rattle.hub_terms.specs.InStep.{IsForJob}
use Rattle.hub_terms.specs.Systems.{SystemState, part_at}
use Rattle.link_trait.specs.Links.{CanStart}

pub part_can_start : (s : SystemState) (i chunks : ℕ) (part : Part) (core : CoreProgram) → IsForJob s → i < worker_count s.hub → 1 ≤ chunks → chunks ≤ 64 → part ≡ part_at s i → core ≡ s.job.core → CanStart part core chunks
part_can_start s i chunks part core fits inside some few its_part its_core = rw (its_part, its_core) (record {
  fits = job_part_fits s.job s.hub.inboxes.cuts i fits.sound fits.cuts inside;
  weights = job_part_weights s.job s.hub.inboxes.cuts i fits.sound;
  ordered = part_holds (λ (row : List Read). IsSortedBy is_lower_read row) s.job.rows (low_of s.hub.inboxes.cuts i) (high_of s.hub.inboxes.cuts i) fits.sound.ordered;
  reads = omega (arith, fewer_reads s.job.rows (low_of s.hub.inboxes.cuts i) (high_of s.hub.inboxes.cuts i), fits.sound.reads);
  in_core_form = fits.sound.core;
  accepted = fits.sound.class;
  numbers = fits.sound.numbers;
  some_chunks = some;
  few_chunks = few;
})

-- the entry that was read of a list by position
pub entry_is : {X : Type 0} (xs : List X) (n i : ℕ) (f : ℕ → X) (x : X) → xs ≡ by_position n f → i < n → x ≡ get_or xs i x → x ≡ f i
entry_is xs n i f x are inside is = is ∙ (ap (λ (ys : List _). get_or ys i x) are ∙ at_position n f i x inside)

pub entry_inside : {X : Type 0} (xs : List X) (n i : ℕ) (f : ℕ → X) → xs ≡ by_position n f → i < n → i < length xs
entry_inside xs n i f are inside = omega (arith, ap length are, length_by_position n f)
