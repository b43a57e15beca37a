use Rattle.std.proofs.Common.{◌<◌, ◌++◌, ◌∙◌, ap, arith, refl}
use Rattle.row_blocks.specs.Telling.{rows_told}
use Rattle.row_blocks.specs.Blocks.{block_count}
use Rattle.row_blocks.proofs.RowsMade.{high_of, told_joined, joined_within}
use Rattle.graph_forms.proofs.units.unit_rows.Goals as goal

pub add_rows-requires-clause-some : goal.add_rows-requires-clause-some
add_rows-requires-clause-some c =
    let told = c.args.blocks.now.told.items in
    let known : c.loop-b.b < block_count c.args.n = omega (arith, c.block_count-b-end.ensures) in
    let before = rows_told (high_of c.args.n c.loop-b.b) told in
    (before, c.loop-b.invariant.done, omega (arith, joined_within c.args.n c.loop-b.b told before c.in_ok-more.more known refl c.in_ok-more.ensures, c.requires.few))

pub loop-b-preserved : goal.loop-b-preserved
loop-b-preserved c =
    let told = c.args.blocks.now.told.items in
    let known : c.loop-b.b < block_count c.args.n = omega (arith, c.block_count-b-end.ensures) in
    let next = ap (λ more. rows_told (high_of c.args.n c.loop-b.b) told ++ more) c.in_ok-more.ensures ∙ told_joined c.args.n c.loop-b.b told known in
    record {
      open_row = c.in_ok-add_rows.ensures.open;
      done = rw next at (c.in_ok-add_rows.ensures.done (rows_told (high_of c.args.n c.loop-b.b) told) c.loop-b.invariant.done);
    }
