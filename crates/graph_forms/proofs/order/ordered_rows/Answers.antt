use Rattle.std.proofs.Common.{◌<◌, ◌++◌, ◌∙◌, ap, arith, refl}
use Rattle.row_blocks.specs.Telling.{rows_told}
use Rattle.row_blocks.specs.Blocks.{block_count}
use Rattle.row_blocks.proofs.RowsMade.{high_of, told_joined, joined_within}
use Rattle.graph_forms.proofs.Ordered.{same_count}
use Rattle.graph_forms.proofs.order.ordered_rows.Goals as goal

pub add_rows-requires-clause-room : goal.add_rows-requires-clause-room
add_rows-requires-clause-room c =
    let told = c.args.blocks.now.told.items in
    let known : c.loop-b.b < block_count c.args.n = omega (arith, c.block_count-b-end.ensures) in
    omega (
      arith,
      same_count (rows_told (high_of c.args.n c.loop-b.b) told) c.loop-b.rows.done c.loop-b.invariant.done,
      joined_within c.args.n c.loop-b.b told (rows_told (high_of c.args.n c.loop-b.b) told) c.in_ok-more.more known refl c.in_ok-more.ensures,
      c.requires.few,
    )

pub loop-b-preserved : goal.loop-b-preserved
loop-b-preserved c =
    let told = c.args.blocks.now.told.items in
    let known : c.loop-b.b < block_count c.args.n = omega (arith, c.block_count-b-end.ensures) in
    let next = ap (λ more. rows_told (high_of c.args.n c.loop-b.b) told ++ more) c.in_ok-more.ensures ∙ told_joined c.args.n c.loop-b.b told known in
    record {
      open_row = c.in_ok-add_rows.ensures.open;
      done = rw next at (c.in_ok-add_rows.ensures.done (rows_told (high_of c.args.n c.loop-b.b) told) c.loop-b.invariant.done);
    }
