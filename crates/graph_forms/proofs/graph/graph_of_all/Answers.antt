use Rattle.std.proofs.Common.{◌∙◌}
use Rattle.graph_forms.proofs.Graphs as graphs
use Rattle.graph_forms.proofs.graph.graph_of_all.Goals as goal

pub returns : goal.returns
returns c = graphs.graph_of_all c.args.form c.args.n c.args.edges.now c.in_ok-rows.rows c.from_vec.result c.in_ok-rows.ensures (c.from_vec.ensures ∙ c.in_ok-degrees.ensures)
