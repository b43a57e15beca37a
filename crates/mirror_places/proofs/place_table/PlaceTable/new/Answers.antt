use Rattle.std.proofs.Common.{◌≡◌, arith, length}
use Rattle.mirror_places.proofs.Tabling.{few, begun_more, table_made, size_made, IsBegun}
use Rattle.mirror_places.proofs.place_table.PlaceTable.new.Goals as goal

pub overflow_cast-k : goal.overflow_cast-k
overflow_cast-k c = omega (arith, few c.args.positions.now c.requires.rising c.requires.below, c.loop-k-test.true)

pub loop-k-preserved : goal.loop-k-preserved
loop-k-preserved c =
    begun_more c.args.positions.now c.loop-k.starts.items c.start_blocks.new.starts.items c.loop-k.k c.block_of.result c.requires.rising c.loop-k-test.true c.loop-k.invariant
    c.block_of.ensures.from c.block_of.ensures.to c.in_ok-start_blocks.ensures.count c.in_ok-start_blocks.ensures.kept c.in_ok-start_blocks.ensures.added

pub overflow_cast-positions : goal.overflow_cast-positions
overflow_cast-positions c = omega (arith, few c.args.positions.now c.requires.rising c.requires.below)

pub returns-clause-table : goal.returns-clause-table
returns-clause-table c =
    let whole : c.loop-k.k ≡ length c.args.positions.now = omega (arith, c.loop-k-test.false, c.loop-k.auto.k-end) in
    let begun : IsBegun c.args.positions.now c.loop-k.starts.items (length c.args.positions.now) = rw whole at c.loop-k.invariant in
    rw c.in_ok-push.ensures.items (table_made c.args.positions.now c.loop-k.starts.items begun)

pub returns-clause-size : goal.returns-clause-size
returns-clause-size c =
    let whole : c.loop-k.k ≡ length c.args.positions.now = omega (arith, c.loop-k-test.false, c.loop-k.auto.k-end) in
    let begun : IsBegun c.args.positions.now c.loop-k.starts.items (length c.args.positions.now) = rw whole at c.loop-k.invariant in
    rw c.in_ok-push.ensures.items (size_made c.args.positions.now c.loop-k.starts.items begun)
