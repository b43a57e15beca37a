-- The frames of a part: the load that brings it.
use Rattle.std.specs.Prelude.{ℕ, ◌+◌, ◌-◌, ◌*◌, ◌/◌, ◌≤◌, All, List, ◌++◌, length, map, take, drop, flat_map, slice_index}
use Rattle.std.specs.List.Sorted.{IsSortedBy}
use Rattle.px_base.specs.declared.TheConstants.{MOST_READS}
use Rattle.px_base.specs.declared.graph.Read.{Read}
use Rattle.px_base.specs.declared.graph.Part.{Part}
use Rattle.px_base.specs.declared.program.Program.{Program}
use Rattle.px_base.specs.declared.wire.Update.{Update}
use Rattle.px_base.specs.declared.frame.Setup.{Setup}
use Rattle.px_base.specs.declared.frame.Triple.{Triple}
use Rattle.px_base.specs.declared.frame.Frame.TheVariants as frame
use Rattle.px_base.specs.Values.{by_position, positions_below}
use Rattle.px_base.specs.Graphs.{HasWeights, is_lower_read, read_count, row_at}
use Rattle.px_base.specs.Parts.{PartFits}
use Rattle.part_loads.specs.Loads.{LoadData}

-- ---- a list in pieces

-- how many pieces of at most this many entries n entries make
abbrev pub piece_count : ℕ → ℕ → ℕ
piece_count most n = (n + most - 1) / most

-- piece k
abbrev pub piece_at : {X : Type 0} → ℕ → List X → ℕ → List X
piece_at most items k = take most (drop (k * most) items)

-- the list in pieces of at most this many entries: all but the last have that many
abbrev pub pieces_of : {X : Type 0} → ℕ → List X → List (List X)
pieces_of most items = by_position (piece_count most (length items)) (piece_at most items)

-- ---- the entries of a part

-- the mirrors with their start values
abbrev pub mirror_pairs : Part → List Update
mirror_pairs part = by_position (length part.mirrors) (λ k. record { vertex = slice_index part.mirrors k; value = slice_index part.mirror_starts k })

-- a read, with the vertex that reads
abbrev pub triple_of : ℕ → Read → Triple
triple_of v r = record { target = v; source = r.source; weight = r.weight }

-- the reads of these rows, row by row; the first row is that of low
abbrev pub triples_of : ℕ → List (List Read) → List Triple
triples_of low rows = flat_map (λ k. map (triple_of (low + k)) (row_at rows k)) (positions_below (length rows))

-- ---- the load

-- what the part is, and how many entries of each kind follow
abbrev pub setup_of : Part → Program → ℕ → Setup
setup_of part program chunks = record {
  index = part.index;
  low = part.low;
  high = part.high;
  program = program;
  chunks = chunks;
  mirrors = length part.mirrors;
  boundary = length part.boundary;
  reads = read_count part.rows;
}

-- the load that brings the part, in frames of at most this many entries; a kind without entries has no frame
abbrev pub load_of : Part → Program → ℕ → ℕ → LoadData
load_of part program chunks most = record {
  setup = setup_of part program chunks;
  pieces = map frame.Starts (pieces_of most part.starts)
      ++ map frame.Mirrors (pieces_of most (mirror_pairs part))
      ++ map frame.Boundary (pieces_of most part.boundary)
      ++ map frame.Reads (pieces_of most (triples_of part.low part.rows));
}

-- ---- which parts have one

-- The part fits, with each row in order, and weights and reads within their limits.
pub record IsLoadable (part : Part) : Type 0 where
  pub fits : PartFits part
  pub weights : HasWeights part.rows
  pub ordered : All (λ row. IsSortedBy is_lower_read row) part.rows
  pub reads : read_count part.rows ≤ MOST_READS
