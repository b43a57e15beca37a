use Rattle.one_text.proofs.Building.{graph_of, has_graph}
use Rattle.graph_forms.proofs.Counting.{few_reads}
use Rattle.one_text.proofs.Ids.{one_list}
use Rattle.one_text.proofs.Listing.{list_of, has_list}
use Rattle.one_text.proofs.Rows.{one_graph}
use Rattle.one_text.proofs.Texts.{one_text}
use Rattle.one_text.proofs.laws.every_input_has_one_text.Goals as goal

pub returns-clause-some_list : goal.returns-clause-some_list
returns-clause-some_list c = λ edges. (list_of edges, has_list edges)

pub returns-clause-list : goal.returns-clause-list
returns-clause-list c = one_list

pub returns-clause-some_graph : goal.returns-clause-some_graph
returns-clause-some_graph c = λ form reads n edges. (graph_of form reads n edges, has_graph form reads n edges)

pub returns-clause-graph : goal.returns-clause-graph
returns-clause-graph c = one_graph

pub returns-clause-few : goal.returns-clause-few
returns-clause-few c = few_reads

pub returns-clause-text : goal.returns-clause-text
returns-clause-text c = one_text
