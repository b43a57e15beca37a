-- The masters that are due renewed, where the others would not change.
use Rattle.std.proofs.Common.{◌≡◌, ℕ, ◌+◌, ◌<◌, ◌∙◌, Bool, true, false, List, length, length-take, get_or, take, drop, refl, sym, ap, arith}
use Rattle.std.specs.Prelude.{◌||◌, slice_index, slice_index_or}
use Rattle.std.proofs.lemmas.Grind.{same_number_lists}
use Rattle.std.proofs.lemmas.List.{get_or-take}
use Rattle.px_base.specs.declared.graph.Part.{Part}
use Rattle.px_base.specs.declared.program.CoreProgram.{CoreProgram}
use Rattle.px_base.specs.Values.{is_listed}
use Rattle.px_base.specs.Pulls.{master_pull}
use Rattle.px_base.specs.Parts.{PartFits}
use Rattle.px_base.specs.ValueSteps.{renewed_value, renewed_masters}
use Rattle.px_base.proofs.Positions.{length_by_position}
use Rattle.worker_world.specs.declared.due.Due.{Due}
use Rattle.worker_world.specs.Waiting.{AreListed}
use Rattle.worker_world.specs.Due.{is_due}
use Rattle.placed_parts.specs.Places.{master_count}
use Rattle.worker_world.specs.Placed.{renewed_at}
use Rattle.worker_world.proofs.Halved.{drop_same}
use Rattle.worker_world.proofs.Settling.{renewed_is}
use Rattle.worker_world.proofs.Told.{none_listed}

-- what the next values come to
pub record HasRenewed (part : Part) (core : CoreProgram) (due : Due) (values next new : List ℕ) : Type 0 where
  pub masters : take (master_count part) new ≡ renewed_masters part core (take (master_count part) values) (drop (master_count part) values)
  pub mirrors : drop (master_count part) new ≡ drop (master_count part) next
  pub listed : (k : ℕ) → k < master_count part → is_listed due.waiting.items k ≡ false → get_or new k 0 ≡ get_or values k 0

-- who isn't listed isn't due
not_due : (due : Due) (k : ℕ) → due.all ≡ false → AreListed due.waiting.items due.marked.items → is_listed due.waiting.items k ≡ false → is_due due k ≡ false
not_due due k off are none = ap (λ b. b || slice_index_or due.marked.items k false) off ∙ by_mark (slice_index_or due.marked.items k false) refl
  where
    by_mark : (b : Bool) → slice_index_or due.marked.items k false ≡ b → b ≡ false
    by_mark true e = (let there : is_listed due.waiting.items k ≡ true = are.listed k e in cc)
    by_mark false e = refl

pub listed_renewed : (part : Part) (core : CoreProgram) (due : Due) (values next new : List ℕ) → PartFits part → length next ≡ master_count part + length part.mirrors → length new ≡ length next → due.all ≡ false →
    AreListed due.waiting.items due.marked.items → length due.marked.items ≡ master_count part → take (master_count part) next ≡ take (master_count part) values →
    ((k : ℕ) → k < length part.rows → is_due due k ≡ false → renewed_at part core values k ≡ slice_index values k) →
    ((k : ℕ) → is_listed due.waiting.items k ≡ true → get_or new k 0 ≡ renewed_at part core values k) →
    ((k : ℕ) → is_listed due.waiting.items k ≡ false → get_or new k 0 ≡ get_or next k 0) →
    HasRenewed part core due values next new
listed_renewed part core due values next new fits count size off are marks level settled renewed kept = record {
  masters = same_number_lists (take (master_count part) new) (renewed_masters part core (take (master_count part) values) (drop (master_count part) values))
      (omega (arith, length-take (master_count part) new, count, size, fits.rows, rows))
      (λ k below.
      let inside : k < length part.rows = omega (arith, below, length-take (master_count part) new, fits.rows) in
      let master : k < master_count part = omega (arith, inside, fits.rows) in
      get_or-take (master_count part) new k 0 master ∙ by_list (is_listed due.waiting.items k) k inside master refl ∙ renewed_is part core values k fits inside);
  mirrors = drop_same (master_count part) new next size (λ k above. kept k (none_listed due.waiting.items k (λ i d inside. omega (arith, are.inside i d inside, marks, above))));
  listed = λ k below none. kept k none ∙ same k below;
}
  where
    rows : length (renewed_masters part core (take (master_count part) values) (drop (master_count part) values)) ≡ length part.rows
    rows = length_by_position (length part.rows) (λ k. renewed_value core (slice_index (take (master_count part) values) k) (master_pull part core (take (master_count part) values) (drop (master_count part) values) k))

    same : (k : ℕ) → k < master_count part → get_or next k 0 ≡ get_or values k 0
    same k below = sym (get_or-take (master_count part) next k 0 below) ∙ ap (λ list. get_or list k 0) level ∙ get_or-take (master_count part) values k 0 below

    by_list : (b : Bool) (k : ℕ) → k < length part.rows → k < master_count part → is_listed due.waiting.items k ≡ b → get_or new k 0 ≡ renewed_at part core values k
    by_list true k inside master listed = renewed k listed
    by_list false k inside master none = kept k none ∙ same k master ∙ sym (settled k inside (not_due due k off are none))
