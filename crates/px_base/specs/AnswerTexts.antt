-- The text that a program's answer on an edge list is written as.
use Rattle.std.specs.Prelude.{◌≡◌, ℕ, List, length}
use Rattle.px_base.specs.declared.graph.EdgeList.{EdgeList}
use Rattle.px_base.specs.declared.graph.ReadGraph.{ReadGraph}
use Rattle.px_base.specs.declared.program.Program.{Program}
use Rattle.px_base.specs.Graphs.{IsGraphOf}
use Rattle.px_base.specs.Answers.{IsAnswer}
use Rattle.px_base.specs.Starts.{starts_of, positions_of}
use Rattle.px_base.specs.Text.{answer_text}
use Rattle.px_base.specs.Lines.{IdEdge, IsEdgeListOf}

-- The text is the answer of the program on the graph of the list, where the vertices at these positions are the sources:
-- there are a graph and values as the definitions ask for them, and the text has one line for each vertex.
pub record IsAnswerOn (program : Program) (sources : List ℕ) (list : EdgeList) (text : List ℕ) : Type 0 where
  pub graph : ReadGraph
  pub built : IsGraphOf program.form program.reads (length list.ids) list.edges graph
  pub values : List ℕ
  pub is_answer : IsAnswer program graph.rows (starts_of program.start list.ids sources) values
  pub written : text ≡ answer_text list.ids values

-- The same for edges with their ends named by ids, where the vertices with the ids in sources are the sources.
pub record IsAnswerText (program : Program) (sources : List ℕ) (edges : List IdEdge) (text : List ℕ) : Type 0 where
  pub list : EdgeList
  pub listed : IsEdgeListOf edges list
  pub answered : IsAnswerOn program (positions_of list.ids sources) list text
