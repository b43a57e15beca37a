-- Who isn't due would not change, before a step, after its updates and after all of it.
use Rattle.std.proofs.Common.{◌≡◌, ℕ, ◌+◌, ◌-◌, ◌<◌, ◌∙◌, false, List, length, get_or, take, drop, refl, sym, ap, arith, inl, inr}
use Rattle.std.specs.Prelude.{All, slice_index}
use Rattle.std.proofs.lemmas.Bool.{cases_lt}
use Rattle.std.proofs.lemmas.List.{get_or-take, get_or-drop}
use Rattle.px_base.specs.declared.graph.Part.{Part}
use Rattle.px_base.specs.declared.program.CoreProgram.{CoreProgram}
use Rattle.px_base.specs.Graphs.{row_at}
use Rattle.px_base.specs.Parts.{PartFits}
use Rattle.px_base.specs.ValueSteps.{renewed_masters}
use Rattle.worker_world.specs.declared.due.Due.{Due}
use Rattle.reader_chains.specs.declared.readers.Readers.{Readers}
use Rattle.placed_parts.specs.Places.{master_count, placed_row}
use Rattle.worker_world.specs.Placed.{renewed_at}
use Rattle.worker_world.specs.Readers.{AreReaders}
use Rattle.worker_world.specs.Due.{is_due, AreTold}
use Rattle.worker_world.proofs.Placing.{row_places_within}
use Rattle.worker_world.proofs.Settling.{renewed_is, settled_still, settled_after}

-- who isn't due reads the values of before
reads_same : (part : Part) (readers : Readers) (due : Due) (before after : List ℕ) (k : ℕ) → PartFits part → k < length part.rows → AreReaders part readers →
    AreTold (master_count part + length part.mirrors) readers due before after → is_due due k ≡ false → All (λ r. slice_index after r.source ≡ slice_index before r.source) (placed_row part (row_at part.rows k))
reads_same part readers due before after k fits inside are told not i d below =
    told (get_or (placed_row part (row_at part.rows k)) i d).source (row_places_within part k (placed_row part (row_at part.rows k)) fits inside refl i d below) k (are.each k inside i d below) not

-- where the mirrors stay, all places are told if the masters are
told_everywhere : (m n : ℕ) (readers : Readers) (due : Due) (before after : List ℕ) → AreTold m readers due before after → drop m after ≡ drop m before → AreTold (m + n) readers due before after
told_everywhere m n readers due before after told same s below k reads not = elim (cases_lt s m) [
  | inl low ↦ told s low k reads not
  | inr high ↦
      let at : m + (s - m) ≡ s = omega (arith, high) in
      ap (λ i. get_or after i 0) (sym at) ∙ sym (get_or-drop m after (s - m) 0) ∙ ap (λ list. get_or list (s - m) 0) same ∙ get_or-drop m before (s - m) 0 ∙ ap (λ i. get_or before i 0) at
]

same_first : (m : ℕ) (one two : List ℕ) (k : ℕ) → take m one ≡ take m two → k < m → get_or one k 0 ≡ get_or two k 0
same_first m one two k same below = sym (get_or-take m one k 0 below) ∙ ap (λ list. get_or list k 0) same ∙ get_or-take m two k 0 below

-- after the updates
pub settled_updated : (part : Part) (core : CoreProgram) (readers : Readers) (due : Due) (before after : List ℕ) (k : ℕ) → PartFits part → k < length part.rows → AreReaders part readers →
    AreTold (master_count part + length part.mirrors) readers due before after → take (master_count part) after ≡ take (master_count part) before → is_due due k ≡ false →
    renewed_at part core before k ≡ slice_index before k → renewed_at part core after k ≡ slice_index after k
settled_updated part core readers due before after k fits inside are told masters not settled =
    settled_still part core before after k (same_first (master_count part) after before k masters (omega (arith, inside, fits.rows))) (reads_same part readers due before after k fits inside are told not) settled

-- after the renewal
pub settled_stepped : (part : Part) (core : CoreProgram) (readers : Readers) (due : Due) (noted after : List ℕ) (k : ℕ) → PartFits part → k < length part.rows → AreReaders part readers →
    AreTold (master_count part) readers due noted after → drop (master_count part) after ≡ drop (master_count part) noted →
    take (master_count part) after ≡ renewed_masters part core (take (master_count part) noted) (drop (master_count part) noted) → is_due due k ≡ false →
    renewed_at part core after k ≡ slice_index after k
settled_stepped part core readers due noted after k fits inside are told mirrors masters not =
    let below : k < master_count part = omega (arith, inside, fits.rows) in
    settled_after part core noted after k
    (sym (get_or-take (master_count part) after k 0 below) ∙ ap (λ list. get_or list k 0) masters ∙ sym (renewed_is part core noted k fits inside))
    (reads_same part readers due noted after k fits inside are (told_everywhere (master_count part) (length part.mirrors) readers due noted after told mirrors) not)
