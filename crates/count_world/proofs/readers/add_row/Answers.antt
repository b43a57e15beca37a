use Rattle.std.proofs.Common.{◌-◌, arith}
use Rattle.px_base.specs.FlatRows.{read_with}
use Rattle.count_world.proofs.Gathered.{row_grows}
use Rattle.count_world.proofs.readers.add_row.Goals as goal

pub loop-k-preserved : goal.loop-k-preserved
loop-k-preserved c =
    let part = c.args.part.now in
    row_grows (part.high - part.low) part.low c.args.readers.now c.loop-k.readers c.add_read.new.readers c.args.reader c.args.row.now c.loop-k.k (read_with 0 0) (omega (arith, c.loop-k-test.true, c.len-k-end.ensures)) c.loop-k.invariant
    (rw c.read.ensures.read at c.in_ok-add_read.ensures)
