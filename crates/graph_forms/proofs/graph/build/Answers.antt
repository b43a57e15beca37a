use Rattle.std.proofs.Common.{length}
use Rattle.px_base.specs.Graphs.{IsGraphOf}
use Rattle.graph_forms.proofs.Counting.{few_reads}
use Rattle.graph_forms.proofs.Made.{rows_fit}
use Rattle.graph_forms.proofs.graph.build.Goals as goal

is_graph : (c : goal.In_ok-graph) → IsGraphOf c.args.form c.args.reads (length c.args.edges.now.ids) c.args.edges.now.edges c.in_ok-graph.graph
is_graph c = rw (c.as_slice.ensures, c.as_slice-2.ensures) at c.in_ok-graph.ensures

pub returns-clause-fits : goal.returns-clause-fits
returns-clause-fits c = rows_fit c.args.form c.args.reads (length c.args.edges.now.ids) c.args.edges.now.edges c.in_ok-graph.graph c.requires.ends (is_graph c)

pub returns-clause-count : goal.returns-clause-count
returns-clause-count c = few_reads c.args.form c.args.reads (length c.args.edges.now.ids) c.args.edges.now.edges c.in_ok-graph.graph (is_graph c)
