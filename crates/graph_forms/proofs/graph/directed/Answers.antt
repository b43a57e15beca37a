use Rattle.std.proofs.Common.{◌∙◌}
use Rattle.graph_forms.proofs.Forms as forms
use Rattle.graph_forms.proofs.graph.directed.Goals as goal

pub returns : goal.returns
returns c = c.in_ok-rows.ensures ∙ forms.directed c.args.direction c.args.n c.args.edges.now c.in_ok-blocks.blocks.told.items c.in_ok-blocks.ensures.same
