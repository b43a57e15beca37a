use Rattle.std.proofs.Common.{◌≡◌, ◌+◌, ◌<◌, length, get_or, take, arith}
use Rattle.std.specs.Prelude.{◌==◌}
use Rattle.std.proofs.lemmas.List.{get_or_default}
use Rattle.std.proofs.lemmas.List.Sums.{sum_by_more}
use Rattle.px_base.specs.Graphs.{row_at, reads_passing}
use Rattle.count_world.specs.Told.{times_of}
use Rattle.count_world.proofs.Tallied.{raises_on}
use Rattle.count_world.proofs.Telling.{told_within, room_for_row}
use Rattle.count_world.proofs.tally.Tally.add_rows.Goals as goal

pub add_row-requires-clause-room : goal.add_row-requires-clause-room
add_row-requires-clause-room c i d below =
    let rows = c.args.part.now.rows in
    let k = get_or c.args.members.now c.loop-k.k-index 0 in
    let inside : k < length rows = omega (arith, c.requires.members c.loop-k.k-index 0 c.loop-k-test.true, c.requires.fits.rows) in
    let row : c.row.result ≡ row_at rows k = c.row.ensures.row in
    let here : i < length c.args.self.now.times.items = omega (arith, below, c.loop-k.invariant.size) in
    rw (get_or_default c.loop-k.self.times.items i d 0 below, row)
    (omega (
      arith,
      c.loop-k.invariant.times i here,
      c.requires.room i 0 here,
      told_within rows (take c.loop-k.k-index c.args.members.now) (get_or c.args.part.now.mirrors i 0),
      room_for_row rows c.args.members.now c.loop-k.k-index c.loop-k-test.true,
    ))

pub loop-k-preserved : goal.loop-k-preserved
loop-k-preserved c =
    let rows = c.args.part.now.rows in
    let k = get_or c.args.members.now c.loop-k.k-index 0 in
    let inside : k < length rows = omega (arith, c.requires.members c.loop-k.k-index 0 c.loop-k-test.true, c.requires.fits.rows) in
    let row : c.row.result ≡ row_at rows k = c.row.ensures.row in
    raises_on c.args.self.now c.loop-k.self c.add_row.new.self
    (λ i. times_of rows (take c.loop-k.k-index c.args.members.now) (get_or c.args.part.now.mirrors i 0))
    (λ i. reads_passing (λ u. u == get_or c.args.part.now.mirrors i 0) c.row.result)
    (λ i. times_of rows (take (c.loop-k.k-index + 1) c.args.members.now) (get_or c.args.part.now.mirrors i 0))
    c.loop-k.invariant c.add_row.ensures
    (λ i below.
    (rw row (sum_by_more (λ j. reads_passing (λ u. u == get_or c.args.part.now.mirrors i 0) (row_at rows j)) c.args.members.now c.loop-k.k-index 0 c.loop-k-test.true)))
