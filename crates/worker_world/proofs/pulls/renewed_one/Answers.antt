use Rattle.std.proofs.Common.{◌<◌, length, arith}
use Rattle.worker_world.proofs.Placing.{row_places_within}
use Rattle.worker_world.proofs.pulls.renewed_one.Goals as goal

pub mex-pulled-requires-clause-places : goal.mex-pulled-requires-clause-places
mex-pulled-requires-clause-places c =
    let part = c.args.part.now in
    let inside : c.args.k < length part.rows = omega (arith, c.requires.k, c.requires.fits.rows) in
    rw c.requires.count (row_places_within part c.args.k c.row-row.result c.requires.fits inside (c.row-row.ensures.row))

pub least_of_row-pulled-requires-clause-places : goal.least_of_row-pulled-requires-clause-places
least_of_row-pulled-requires-clause-places c =
    let part = c.args.part.now in
    let inside : c.args.k < length part.rows = omega (arith, c.requires.k, c.requires.fits.rows) in
    rw c.requires.count (row_places_within part c.args.k c.row-row.result c.requires.fits inside (c.row-row.ensures.row))
