use Rattle.graph_forms.proofs.Forms as forms
use Rattle.graph_forms.proofs.graph.directed_in_order.Goals as goal

pub returns : goal.returns
returns c = rw (forms.directed c.args.direction c.args.n c.args.edges.now c.in_ok-blocks.blocks.told.items c.in_ok-blocks.ensures.same) at c.in_ok-rows.ensures
