-- What a step leaves, and what it puts back without memory.
use Rattle.std.proofs.Common.{◌≡◌, ℕ, ◌+◌, ◌-◌, ◌<◌, ◌∙◌, Bool, true, false, List, [], ◌∷◌, length, refl, sym, ap, subst, arith}
use Rattle.std.specs.Prelude.{◌==◌, ◌||◌, not, slice_index, if◌then◌else◌}
use Rattle.std.proofs.lemmas.Grind.{same_number_lists}
use Rattle.std.proofs.lemmas.List.Sums.{sum_by-cons}
use Rattle.px_base.specs.declared.graph.Part.{Part}
use Rattle.px_base.specs.declared.wire.Update.{Update}
use Rattle.px_base.specs.CountSteps.{delta_of, counts_less}
use Rattle.px_base.proofs.Positions.{at_position}
use Rattle.count_world.specs.declared.known.Known.{Known}
use Rattle.count_world.specs.Kept.{IsReady}
use Rattle.count_world.specs.Noted.{IsNoted, IsStepped, counts_read}
use Rattle.list_laws.specs.Sets.{IsListOf}
use Rattle.count_world.specs.Sets.{is_dying, is_updated, counts_off, without}
use Rattle.count_world.specs.Tally.{IsClear}
use Rattle.count_world.specs.Told.{told_updates}
use Rattle.count_world.proofs.Counted.{nothing_off}

-- ---- with memory

pub stepped : (part : Part) (fresh : Bool) (updates : List Update) (old noted new : Known) (changed : Bool) (told : List Update) → length old.census.alive.items ≡ part.high - part.low → IsNoted part fresh updates old noted →
    new.again ≡ noted.again → new.readers ≡ noted.readers → new.gone.items ≡ noted.census.dying.items →
    new.census.alive.items ≡ without noted.census.dying.items noted.census.alive.items →
    new.census.counts.items ≡ counts_off noted.readers noted.census.dying.items noted.census.counts.items →
    changed ≡ not (length new.gone.items == 0) → told ≡ told_updates part.mirrors noted.tally.times.items → IsStepped part fresh updates old new changed told
stepped part fresh updates old noted new changed told size n again readers gone alive counts some tells =
    let lists : IsListOf (part.high - part.low) (is_dying old.census.alive.items (counts_read part fresh updates noted.readers noted.again.items old.census.counts.items) old.census.needed) noted.census.dying.items =
    subst (λ k. IsListOf (part.high - part.low) (is_dying old.census.alive.items (counts_read part fresh updates noted.readers noted.again.items old.census.counts.items) k) noted.census.dying.items) n.census.needed
    (subst (λ cs. IsListOf (part.high - part.low) (is_dying old.census.alive.items cs noted.census.needed) noted.census.dying.items) n.counts
    (subst (λ m. IsListOf m (is_dying old.census.alive.items noted.census.counts.items noted.census.needed) noted.census.dying.items) size
    (subst (λ xs. IsListOf (length xs) (is_dying xs noted.census.counts.items noted.census.needed) noted.census.dying.items) n.census.alive n.census.census.lists))) in
    record {
      again = rw again n.again;
      gone = rw (again, readers, gone) lists;
      alive = rw gone (alive ∙ ap (λ xs. without noted.census.dying.items xs) n.census.alive);
      counts = rw (again, readers, gone) (counts ∙ ap (λ cs. counts_off noted.readers noted.census.dying.items cs) n.counts);
      some = some;
      tells = rw (again, gone) (tells ∙ ap (λ times. told_updates part.mirrors times) n.times);
    }

-- ---- without memory

not_updated : (updates : List Update) (low j : ℕ) → is_updated low updates j ≡ false → delta_of updates (low + j) ≡ 0
not_updated [] low j none = refl
not_updated (u ∷ us) low j none = by_first (u.vertex == low + j) refl none (not_updated us low j)
  where
    by_first : (b : Bool) → (u.vertex == low + j) ≡ b → (b || is_updated low us j) ≡ false → (is_updated low us j ≡ false → delta_of us (low + j) ≡ 0) → delta_of (u ∷ us) (low + j) ≡ 0
    by_first true is fails rest = cc
    by_first false is fails rest =
        let here : (if u.vertex == low + j then u.value else 0) ≡ 0 = ap (λ b. if b then u.value else 0) is in
        omega (arith, sum_by-cons (λ x. if x.vertex == low + j then x.value else 0) u us, here, rest fails)

-- a count that wasn't saved hasn't changed
unchanged : (part : Part) (fresh : Bool) (updates : List Update) (old noted : Known) (j : ℕ) → IsNoted part fresh updates old noted → j < length old.census.counts.items → (fresh || is_updated part.low updates j) ≡ false →
    slice_index noted.census.counts.items j ≡ slice_index old.census.counts.items j
unchanged part true updates old noted j n inside none = cc
unchanged part false updates old noted j n inside none =
    let read : noted.census.counts.items ≡ counts_less part.low updates old.census.counts.items =
    n.counts ∙ ap (λ cs. counts_less part.low updates cs) (nothing_off noted.readers (part.high - part.low) noted.again.items old.census.counts.items n.again) in
    ap (λ cs. slice_index cs j) read
    ∙ at_position (length old.census.counts.items) (λ k. slice_index old.census.counts.items k - delta_of updates (part.low + k)) j 0 inside
    ∙ (let zero : delta_of updates (part.low + j) ≡ 0 = not_updated updates part.low j none in omega (arith, zero))

pub put_back : (part : Part) (fresh : Bool) (updates : List Update) (old noted : Known) (counts : List ℕ) → IsNoted part fresh updates old noted → length noted.census.counts.items ≡ length old.census.counts.items →
    length counts ≡ length noted.census.counts.items →
    ((j : ℕ) → j < length noted.census.counts.items → slice_index counts j ≡ (if fresh || is_updated part.low updates j then slice_index noted.saved.items j else slice_index noted.census.counts.items j)) →
    counts ≡ old.census.counts.items
put_back part fresh updates old noted counts n same size back =
    same_number_lists counts old.census.counts.items (size ∙ same)
    (λ j below. (let inside : j < length old.census.counts.items = omega (arith, below, size, same) in
    back j (omega (arith, below, size)) ∙ by_test j (fresh || is_updated part.low updates j) inside refl))
  where
    by_test : (j : ℕ) (b : Bool) → j < length old.census.counts.items → (fresh || is_updated part.low updates j) ≡ b → (if b then slice_index noted.saved.items j else slice_index noted.census.counts.items j) ≡ slice_index old.census.counts.items j
    by_test j true inside is = n.saved j inside is
    by_test j false inside is = unchanged part fresh updates old noted j n inside is

pub ready_again : (part : Part) (fresh : Bool) (updates : List Update) (old noted new : Known) → IsReady part old → IsNoted part fresh updates old noted → new.census.counts.items ≡ old.census.counts.items →
    new.census.dying ≡ noted.gone → new.gone ≡ noted.census.dying → new.census.needed ≡ noted.census.needed → new.census.alive ≡ noted.census.alive → new.saved ≡ noted.saved → new.again ≡ noted.again →
    new.readers ≡ noted.readers → new.places ≡ noted.places → IsClear new.tally → length new.tally.times.items ≡ length noted.tally.times.items → IsReady part new
ready_again part fresh updates old noted new ready n counts dying gone needed alive saved again readers places clear times =
    let census = ready.census in
    let living : new.census.alive.items ≡ old.census.alive.items = ap (λ xs. xs.items) alive ∙ n.census.alive in
    let list : new.census.dying.items ≡ old.census.dying.items = ap (λ xs. xs.items) dying ∙ n.gone in
    let number : new.census.needed ≡ old.census.needed = needed ∙ n.census.needed in
    let size : length new.census.alive.items ≡ part.high - part.low = ap length living ∙ ready.tables.alive in
    record {
      tables = record {
        alive = size;
        readers = rw readers n.tables.readers;
        places = rw places n.tables.places;
        again = rw again n.tables.again;
        gone = rw gone (omega (arith, n.census.census.room, n.tables.alive));
        saved = rw saved n.tables.saved;
        times = times ∙ n.tables.times;
      };
      census = record {
        few = rw living census.few;
        flags = rw living census.flags;
        counts = ap length counts ∙ census.counts ∙ sym (ap length living);
        room = rw dying (omega (arith, size, n.tables.gone));
        lists = rw (living, counts, number, list) census.lists;
      };
      tally = clear;
    }
