-- Graphs that were built for a program.
use Rattle.std.specs.Prelude.{◌<◌, All, List}
use Rattle.px_base.specs.declared.graph.Edge.{Edge}
use Rattle.px_base.specs.declared.graph.ReadGraph.{ReadGraph}
use Rattle.px_base.specs.declared.program.Program.{Program}
use Rattle.px_base.specs.Graphs.{IsGraphOf}

-- the graph is the one of some edges between its vertices, in the program's form and with its reads
pub record IsBuilt (program : Program) (built : ReadGraph) : Type 0 where
  pub edges : List Edge
  pub ends : All (λ e. (e.source < built.n) × (e.target < built.n)) edges
  pub graph : IsGraphOf program.form program.reads built.n edges built
