-- The texts of `classify` and `parts`.
use Rattle.std.specs.Prelude.{◌≡◌, ℕ, ◌-◌, List, [], ◌∷◌, ◌++◌, length, flat_map, codes, decimal}
use Rattle.px_base.specs.declared.graph.Read.{Read}
use Rattle.px_base.specs.declared.graph.EdgeList.{EdgeList}
use Rattle.px_base.specs.declared.graph.Part.{Part}
use Rattle.px_base.specs.declared.graph.ReadGraph.{ReadGraph}
use Rattle.px_base.specs.declared.program.Program.{Program}
use Rattle.px_base.specs.declared.program.Class.{Class}
use Rattle.px_base.specs.declared.program.Class.TheVariants.{SelfStabilising, LocallyCorrecting, GloballyCorrecting}
use Rattle.px_base.specs.Values.{positions_below}
use Rattle.px_base.specs.Lines.{IdEdge, IsEdgeListOf}
use Rattle.px_base.specs.Graphs.{IsGraphOf, read_count}
use Rattle.px_base.specs.Parts.{block_cuts, low_of, high_of, mirrors_of, part_rows}

-- the name of a class, as a line
abbrev pub class_text : Class → List ℕ
class_text SelfStabilising = codes "self-stabilising\n"
class_text LocallyCorrecting = codes "locally correcting\n"
class_text GloballyCorrecting = codes "globally correcting\n"

-- the line of a worker with this index, which has so many masters, mirrors and reads
abbrev pub worker_line : ℕ → ℕ → ℕ → ℕ → List ℕ
worker_line index masters mirrors reads =
    codes "worker " ++ (decimal index ++ (codes ": masters " ++ (decimal masters ++ (codes ", mirrors " ++ (decimal mirrors ++ (codes ", reads " ++ (decimal reads ++ 10 ∷ [])))))))

-- the line of a part
abbrev pub line_of : Part → List ℕ
line_of part = worker_line part.index (part.high - part.low) (length part.mirrors) (read_count part.rows)

-- the line of part i of the graph with these rows
abbrev pub part_line : List (List Read) → List ℕ → ℕ → List ℕ
part_line rows cuts i = worker_line i (high_of cuts i - low_of cuts i) (length (mirrors_of rows cuts i)) (read_count (part_rows rows cuts i))

-- the lines of all parts, where the vertices are cut into a block for each worker
abbrev pub parts_text : List (List Read) → ℕ → List ℕ
parts_text rows workers = flat_map (part_line rows (block_cuts (length rows) workers)) (positions_below workers)

-- The text is that of the parts of the program's graph on these edges: there are a list and a graph as the definitions ask
-- for them.
pub record IsPartsText (program : Program) (workers : ℕ) (edges : List IdEdge) (text : List ℕ) : Type 0 where
  pub list : EdgeList
  pub listed : IsEdgeListOf edges list
  pub graph : ReadGraph
  pub built : IsGraphOf program.form program.reads (length list.ids) list.edges graph
  pub written : text ≡ parts_text graph.rows workers
