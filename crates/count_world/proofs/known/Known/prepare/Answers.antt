use Rattle.std.proofs.Common.{◌∙◌, ◌+◌, length, ap, sym, subst, arith}
use Rattle.std.specs.Prelude.{slice_index}
use Rattle.std.proofs.lemmas.List.{length-map}
use Rattle.px_base.specs.CountSteps.{counts_less}
use Rattle.count_world.specs.Noted.{times_both}
use Rattle.list_laws.specs.Sets.{IsListOf}
use Rattle.count_world.specs.Sets.{is_told_again, is_dying, counts_off}
use Rattle.count_world.specs.Told.{times_of}
use Rattle.count_world.proofs.Lowered.{keeps_on}
use Rattle.list_laws.proofs.Sums.{listed_inside, listed_few}
use Rattle.count_world.proofs.Telling.{few_reads}
use Rattle.count_world.proofs.known.Known.prepare.Goals as goal

pub copy_list-requires : goal.copy_list-requires
copy_list-requires c =
    let census = c.args.self.now.census in
    let ready = c.requires.ready in
    omega (arith, ap length c.as_slice-2.ensures.value, listed_few (length census.alive.items) (is_dying census.alive.items census.counts.items census.needed) census.dying.items ready.census.lists, ready.tables.alive, ready.tables.gone)

pub take_off-requires-clause-members : goal.take_off-requires-clause-members
take_off-requires-clause-members c =
    let alive = c.as_slice.result.now in
    let inside = listed_inside (length alive) (is_told_again c.args.fresh alive) c.list_again.new.list.items c.list_again.ensures.lists in
    rw c.as_slice-again.ensures.value (λ k d below. omega (arith, inside k d below, ap length c.as_slice.ensures.value, ap length c.begin.ensures.kept.alive))

pub count-requires-clause-again : goal.count-requires-clause-again
count-requires-clause-again c =
    let alive = c.as_slice.result.now in
    let inside = listed_inside (length alive) (is_told_again c.args.fresh alive) c.list_again.new.list.items c.list_again.ensures.lists in
    rw c.as_slice-again.ensures.value (λ k d below. omega (arith, inside k d below, ap length c.as_slice.ensures.value, c.requires.ready.tables.alive))

pub count-requires-clause-dying : goal.count-requires-clause-dying
count-requires-clause-dying c =
    let census = c.take_deltas.new.self in
    let inside = listed_inside (length census.alive.items) (is_dying census.alive.items census.counts.items census.needed) census.dying.items c.take_deltas.ensures.kept.census.lists in
    rw c.as_slice-dying.ensures.value
    (λ k d below. omega (arith, inside k d below, ap length c.take_deltas.ensures.kept.alive, ap length c.take_off.ensures.kept.alive, ap length c.begin.ensures.kept.alive, c.requires.ready.tables.alive))

pub count-requires-clause-few_again : goal.count-requires-clause-few_again
count-requires-clause-few_again c =
    let alive = c.as_slice.result.now in
    rw c.as_slice-again.ensures.value
    (few_reads c.args.part.now.rows (length alive) 33554432 (is_told_again c.args.fresh alive) c.list_again.new.list.items c.list_again.ensures.lists
    (c.requires.fits.rows ∙ sym c.requires.ready.tables.alive ∙ sym (ap length c.as_slice.ensures.value)) c.requires.reads)

pub count-requires-clause-few_dying : goal.count-requires-clause-few_dying
count-requires-clause-few_dying c =
    let census = c.take_deltas.new.self in
    rw c.as_slice-dying.ensures.value
    (few_reads c.args.part.now.rows (length census.alive.items) 33554432 (is_dying census.alive.items census.counts.items census.needed) census.dying.items c.take_deltas.ensures.kept.census.lists
    (omega (arith, c.requires.fits.rows, ap length c.take_deltas.ensures.kept.alive, ap length c.take_off.ensures.kept.alive, ap length c.begin.ensures.kept.alive, c.requires.ready.tables.alive)) c.requires.reads)

pub returns : goal.returns
returns c =
    let part = c.args.part.now in
    let old = c.args.self.now in
    let tables = c.requires.ready.tables in
    record {
      tables = record {
        alive = ap length c.take_deltas.ensures.kept.alive ∙ ap length c.take_off.ensures.kept.alive ∙ ap length c.begin.ensures.kept.alive ∙ tables.alive;
        readers = tables.readers;
        places = tables.places;
        again = omega (arith, tables.again, c.list_again.ensures.room);
        gone = omega (arith, tables.gone, c.copy_list.ensures.room);
        saved = c.copy_changing.ensures.size ∙ tables.saved;
        times = ap length c.count.ensures.times ∙ length-map part.mirrors (λ m. times_of part.rows c.as_slice-again.result.now m + times_of part.rows c.as_slice-dying.result.now m);
      };
      census = keeps_on old.census c.take_off.new.census c.take_deltas.new.self (keeps_on old.census c.begin.new.self c.take_off.new.census c.begin.ensures.kept c.take_off.ensures.kept) c.take_deltas.ensures.kept;
      again = subst (λ m. IsListOf m (is_told_again c.args.fresh old.census.alive.items) c.list_again.new.list.items) tables.alive
          (subst (λ xs. IsListOf (length xs) (is_told_again c.args.fresh xs) c.list_again.new.list.items) c.as_slice.ensures.value c.list_again.ensures.lists);
      counts =
          c.take_deltas.ensures.counts
          ∙ ap (λ cs. counts_less part.low c.args.updates.now cs)
          (c.take_off.ensures.counts ∙ ap (λ members. counts_off old.readers members c.begin.new.self.counts.items) c.as_slice-again.ensures.value
          ∙ ap (λ cs. counts_off old.readers c.list_again.new.list.items cs) c.begin.ensures.counts);
      gone = c.copy_list.ensures.items ∙ c.as_slice-2.ensures.value;
      saved = λ j inside is.
          (rw is at (c.copy_changing.ensures.copied j (omega (arith, inside, c.requires.ready.census.counts, tables.alive, tables.saved)))
          ∙ ap (λ xs. slice_index xs j) c.as_slice-counts.ensures.value);
      tally = c.count.ensures.tally;
      times =
          c.count.ensures.times ∙ ap (λ members. times_both part members c.as_slice-dying.result.now) c.as_slice-again.ensures.value
          ∙ ap (λ members. times_both part c.list_again.new.list.items members) c.as_slice-dying.ensures.value;
    }
