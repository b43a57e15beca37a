use Rattle.std.proofs.Common.{arith}
use Rattle.row_blocks.proofs.EndSteps.{few_ends}
use Rattle.graph_forms.proofs.Forms as forms
use Rattle.graph_forms.proofs.graph.simple.Goals as goal

pub unit_rows-requires-clause-few : goal.unit_rows-requires-clause-few
unit_rows-requires-clause-few c = omega (arith, c.in_ok-blocks.ensures.count, few_ends c.args.edges.now, c.requires.lines)

pub returns : goal.returns
returns c = forms.simple c.args.n c.args.edges.now c.in_ok-blocks.blocks.told.items c.in_ok-rows.rows c.requires.ends c.in_ok-blocks.ensures.same c.in_ok-rows.ensures
