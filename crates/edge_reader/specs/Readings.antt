-- What a reading of an edge list says of its input.
use Rattle.std.specs.Prelude.{◌≡◌, ◌≤◌, ℕ, ⊤, List, length, Option, Result, Ok, Err, IfSome, IsOk}
use Rattle.std.specs.Io.KnownBytes.{Consumes, IsAtEnd}
use Rattle.px_base.specs.declared.graph.EdgeList.{EdgeList}
use Rattle.px_base.specs.Lines.{IdEdge, IsEdgeListOf, LineFault, missing, bad_id, bad_weight}
use Rattle.px_base.specs.Inputs.{InputFault, bad_line, too_many_edges, too_long, too_many_vertices, input_of, input_limits, edges_within, ended_lines}
use Rattle.std.specs.Prelude.{Bool}
use Rattle.edge_reader.specs.declared.fault.EdgeFault.{EdgeFault}
use Rattle.edge_reader.specs.declared.fault.EdgeFault.TheVariants.{Missing, BadId, BadWeight, TooManyVertices, TooManyEdges, TooLong, ReadFault, Memory}

-- the line with this number is the first fault, and this is wrong with it
abbrev pub IsBadLine : ℕ → LineFault → Result (List IdEdge) InputFault → Type 0
IsBadLine line what outcome = outcome ≡ Err (bad_line (record { line = line; what = what }))

-- What the answer says of the input: its edges, or its first fault. A fault of the source and want of memory say nothing.
abbrev pub Says : Result EdgeList EdgeFault → Result (List IdEdge) InputFault → Type 0
Says (Ok list) outcome = (edges : List IdEdge) × (outcome ≡ Ok edges) × IsEdgeListOf edges list
Says (Err (Missing line)) outcome = IsBadLine line missing outcome
Says (Err (BadId line)) outcome = IsBadLine line bad_id outcome
Says (Err (BadWeight line)) outcome = IsBadLine line bad_weight outcome
Says (Err TooManyVertices) outcome = outcome ≡ Err too_many_vertices
Says (Err TooManyEdges) outcome = outcome ≡ Err too_many_edges
Says (Err TooLong) outcome = outcome ≡ Err too_long
Says (Err ReadFault) outcome = ⊤
Says (Err Memory) outcome = ⊤

-- Bytes in which no fault was met yet: they are not too many, and the lines that ended are right and have not too many edges.
pub record HasNoFault (weighted : Bool) (bytes : List ℕ) : Type 0 where
  pub short : length bytes ≤ input_limits.bytes
  pub edges : List IdEdge
  pub said : edges_within weighted 1 input_limits.edges (ended_lines bytes) ≡ Ok edges

-- Where the source tells its bytes, they are all that was left; where it doesn't, there are some bytes of which all this
-- holds.
pub record IsReadingOf (weighted : Bool) (left rest : Option (List ℕ)) (result : Result EdgeList EdgeFault) : Type 0 where
  -- the whole input
  pub bytes : List ℕ
  pub told : IfSome left (λ all. all ≡ bytes)
  -- what the call took
  pub taken : List ℕ
  pub lost : Consumes left rest taken
  pub said : Says result (input_of input_limits weighted bytes)
  -- edges come only at the end
  pub ended : IsOk result → IsAtEnd rest
  -- the vertices are counted only at the end
  pub counted : result ≡ Err TooManyVertices → IsAtEnd rest
  -- a fault of the source is the answer only where no other fault was met before it
  pub met : result ≡ Err ReadFault → HasNoFault weighted taken
