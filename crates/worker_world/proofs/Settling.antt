-- Masters that would not change.
use Rattle.std.proofs.Common.{◌≡◌, ℕ, suc, ◌<◌, ◌∙◌, Bool, true, false, List, [], ◌∷◌, length, get_or, take, drop, refl, sym, ap, arith}
use Rattle.std.specs.Prelude.{min, All, slice_index, if◌then◌else◌}
use Rattle.px_base.specs.declared.graph.Part.{Part}
use Rattle.px_base.specs.declared.program.CoreProgram.{CoreProgram}
use Rattle.px_base.specs.Classes.{keeps}
use Rattle.px_base.specs.Core.{core_edge_value, core_gather}
use Rattle.px_base.specs.Graphs.{row_at}
use Rattle.px_base.specs.Parts.{PartFits}
use Rattle.px_base.specs.ValueSteps.{renewed_value, renewed_masters}
use Rattle.px_base.proofs.Positions.{at_position}
use Rattle.px_base.specs.declared.graph.Read.{Read}
use Rattle.placed_parts.specs.Places.{master_count, placed_row}
use Rattle.worker_world.specs.Placed.{placed_items, pulled_at, renewed_at}
use Rattle.worker_world.proofs.Placing.{renewed_by_place}

-- the list of all new values has this one
pub renewed_is : (part : Part) (core : CoreProgram) (values : List ℕ) (k : ℕ) → PartFits part → k < length part.rows →
    renewed_at part core values k ≡ get_or (renewed_masters part core (take (master_count part) values) (drop (master_count part) values)) k 0
renewed_is part core values k fits inside =
    renewed_by_place part core values k (pulled_at part core values k) fits inside refl
    ∙ sym (at_position (length part.rows) _ k 0 inside)

-- a row gathers the same from the same values
same_items : (core : CoreProgram) (one two : List ℕ) (row : List Read) → All (λ r. slice_index one r.source ≡ slice_index two r.source) row → placed_items core one row ≡ placed_items core two row
same_items core one two [] same = refl
same_items core one two (r ∷ row) same =
    let here : slice_index one r.source ≡ slice_index two r.source = same 0 r (omega arith) in
    rw here (ap (λ items. core_edge_value core (slice_index two r.source) r.weight ∷ items) (same_items core one two row (λ k d below. same (suc k) d (omega arith))))

pub same_pull : (part : Part) (core : CoreProgram) (one two : List ℕ) (k : ℕ) → All (λ r. slice_index one r.source ≡ slice_index two r.source) (placed_row part (row_at part.rows k)) → pulled_at part core one k ≡ pulled_at part core two k
same_pull part core one two k same = ap (core_gather core (slice_index part.starts k)) (same_items core one two (placed_row part (row_at part.rows k)) same)

-- a value renewed twice by the same is renewed once
pub renewed_again : (core : CoreProgram) (value pulled : ℕ) → renewed_value core (renewed_value core value pulled) pulled ≡ renewed_value core value pulled
renewed_again core value pulled = by_own (keeps core.program.own)
  where
    by_own : (b : Bool) → (if b then min (if b then min value pulled else pulled) pulled else pulled) ≡ (if b then min value pulled else pulled)
    by_own true = omega arith
    by_own false = refl

-- a master that would not change still doesn't, where its own value and those that it reads are the same
pub settled_still : (part : Part) (core : CoreProgram) (old new : List ℕ) (k : ℕ) → slice_index new k ≡ slice_index old k → All (λ r. slice_index new r.source ≡ slice_index old r.source) (placed_row part (row_at part.rows k)) →
    renewed_at part core old k ≡ slice_index old k → renewed_at part core new k ≡ slice_index new k
settled_still part core old new k own reads settled = rw (own, same_pull part core new old k reads) settled

-- a master that was renewed wouldn't change again, where the values that it reads are the same
pub settled_after : (part : Part) (core : CoreProgram) (old new : List ℕ) (k : ℕ) → slice_index new k ≡ renewed_at part core old k → All (λ r. slice_index new r.source ≡ slice_index old r.source) (placed_row part (row_at part.rows k)) →
    renewed_at part core new k ≡ slice_index new k
settled_after part core old new k own reads = rw (own, same_pull part core new old k reads) (renewed_again core (slice_index old k) (pulled_at part core old k))
