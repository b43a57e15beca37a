use Rattle.std.proofs.Common.{◌≡◌, ◌<◌, ◌≢◌, ◌∙◌, length, take, drop, arith, ap, below_more, get_or-set_other, get_or-set_same}
use Rattle.std.specs.Prelude.{slice_index}
use Rattle.std.proofs.lemmas.List.FromFn.{fill_by_all}
use Rattle.px_base.specs.Core.{core_gather}
use Rattle.px_base.specs.Graphs.{row_at}
use Rattle.px_base.specs.Rules.{mex}
use Rattle.px_base.specs.Pulls.{master_pull}
use Rattle.px_base.specs.ValueSteps.{renewed_value}
use Rattle.placed_parts.specs.Places.{master_count, placed_row}
use Rattle.worker_world.specs.Placed.{placed_items}
use Rattle.worker_world.proofs.Placing.{row_places_within, renewed_by_place, mex_gathers}
use Rattle.worker_world.proofs.pulls.write_mex.Goals as goal

pub mex-pulled-requires-clause-places : goal.mex-pulled-requires-clause-places
mex-pulled-requires-clause-places c =
    let inside : c.loop-k.k < length c.args.part.now.rows = omega (arith, c.loop-k-test.true, c.requires.fits.rows, c.requires.next) in
    let row : c.row.result ≡ placed_row c.args.part.now (row_at c.args.part.now.rows c.loop-k.k) = c.row.ensures.row in
    rw c.requires.count (row_places_within c.args.part.now c.loop-k.k c.row.result c.requires.fits inside row)

pub loop-k-preserved : goal.loop-k-preserved
loop-k-preserved c =
    let inside : c.loop-k.k < length c.args.part.now.rows = omega (arith, c.loop-k-test.true, c.requires.fits.rows, c.requires.next) in
    let row : c.row.result ≡ placed_row c.args.part.now (row_at c.args.part.now.rows c.loop-k.k) = c.row.ensures.row in
    let items = placed_items c.args.core.now c.args.values.now (placed_row c.args.part.now (row_at c.args.part.now.rows c.loop-k.k)) in
    let start = slice_index c.args.part.now.starts c.loop-k.k in
    let first : c.loop-k.k < length c.loop-k.next = omega (arith, inside, c.requires.fits.rows, c.requires.next, c.loop-k.auto.next) in
    let pulled : c.mex-pulled.result ≡ core_gather c.args.core.now start items =
    c.mex-pulled.ensures.mex
    ∙ ap (λ reads. mex (placed_items c.args.core.now c.args.values.now reads)) row
    ∙ mex_gathers c.args.core.now start items c.requires.fold in
    record {
      renewed = below_more _ _
          (λ k h. let ne : k ≢ c.loop-k.k = omega arith in rw get_or-set_other (c.loop-k.invariant.renewed k h))
          (rw (get_or-set_same, c.renewed_value.ensures) (renewed_by_place c.args.part.now c.args.core.now c.args.values.now c.loop-k.k c.mex-pulled.result c.requires.fits inside pulled));
      room = c.mex-pulled.ensures.room ∙ c.loop-k.invariant.room;
    }

pub returns-clause-renewed : goal.returns-clause-renewed
returns-clause-renewed c =
    fill_by_all
    (λ j. renewed_value c.args.core.now (slice_index (take (master_count c.args.part.now) c.args.values.now) j) (master_pull c.args.part.now c.args.core.now (take (master_count c.args.part.now) c.args.values.now) (drop (master_count c.args.part.now) c.args.values.now) j))
    c.loop-k.next (length c.args.part.now.rows) 0 (omega (arith, c.loop-k.auto.next, c.requires.next, c.requires.fits.rows))
    (λ k below. c.loop-k.invariant.renewed k (omega (arith, below, c.loop-k-test.false, c.loop-k.auto, c.requires.fits.rows, c.requires.next)))
