-- What the bytes of an edge list say: lines, fields, edges, and the first fault.
use Rattle.std.specs.Prelude.{◌≡◌, ℕ, ◌-◌, ◌^◌, ◌<◌, ◌≤◌, All, Bool, not, ◌||◌, ◌==◌, List, [], ◌∷◌, length, map, filter, take, flat_map, slice_index, Contains, ◌↔◌, if◌then◌else◌, Option, Some, None, Ok, Err}
use Rattle.std.specs.List.Sorted.{IsStrictlyIncreasing}
use Rattle.px_base.specs.declared.graph.Edge.{Edge}
use Rattle.px_base.specs.declared.graph.EdgeList.{EdgeList}
use Rattle.px_base.specs.declared.TheConstants.{ID_LIMIT, MOST_EDGES, MOST_VERTICES, WEIGHT_LIMIT}
use Rattle.px_base.specs.Values.{IsWeight, place_of}
use Rattle.px_base.specs.Text.{number_read}

-- ---- cutting a text into pieces

-- the pieces with the byte b put in front of the first one
abbrev pub in_front : ℕ → List (List ℕ) → List (List ℕ)
in_front b [] = (b ∷ []) ∷ []
in_front b (piece ∷ pieces) = (b ∷ piece) ∷ pieces

-- The text cut at each byte that passes the test, without these bytes. There is one piece more than there are such
-- bytes, and pieces may have no byte.
abbrev pub pieces_at : (ℕ → Bool) → List ℕ → List (List ℕ)
pieces_at test [] = [] ∷ []
pieces_at test (b ∷ bytes) = let pieces = pieces_at test bytes in if test b then [] ∷ pieces else in_front b pieces

-- the piece has a byte
abbrev pub has_bytes : List ℕ → Bool
has_bytes piece = not (length piece == 0)

-- all the pieces, but for the last one where that has no byte
abbrev pub without_empty_end : List (List ℕ) → List (List ℕ)
without_empty_end [] = []
without_empty_end (piece ∷ []) = if has_bytes piece then piece ∷ [] else []
without_empty_end (piece ∷ next ∷ pieces) = piece ∷ without_empty_end (next ∷ pieces)

-- The lines of a text. A line ends with a newline; a last line without one counts if it has a byte.
abbrev pub lines_of : List ℕ → List (List ℕ)
lines_of text = without_empty_end (pieces_at (λ b. b == 10) text)

-- the line without the one carriage return that may stand at its end
abbrev pub without_return : List ℕ → List ℕ
without_return line = if slice_index line (length line - 1) == 13 then take (length line - 1) line else line

-- blanks and tabs stand between fields, and may stand at both ends of a line
abbrev pub is_blank : ℕ → Bool
is_blank b = b == 32 || b == 9

-- the fields of a line
abbrev pub fields_of : List ℕ → List (List ℕ)
fields_of line = filter has_bytes (pieces_at is_blank line)

-- ---- one line

-- an edge, with its ends named by their ids
pub record IdEdge : Type 0 where
  pub source : ℕ
  pub target : ℕ
  pub weight : ℕ

-- what is wrong with a line: it has fewer than two fields, a field is no id, the third field is no weight
pub data LineFault : Type 0 where
  missing : LineFault
  bad_id : LineFault
  bad_weight : LineFault

-- what a line says: nothing, one edge, or a fault
pub data Line : Type 0 where
  skipped : Line
  an_edge : IdEdge → Line
  faulty : LineFault → Line

-- the number that the field writes, where it writes one below the limit
abbrev pub number_below : ℕ → List ℕ → Option ℕ
number_below limit field = elim (number_read field (limit - 1)) [ Ok n ↦ Some n | Err fault ↦ None ]

-- the same for a number of four bytes
abbrev pub small_number : List ℕ → Option ℕ
small_number field = number_below (2 ^ 32) field

-- The weight that stands in the fields after the two ids. It is 1 where there are none, or where weights aren't read.
abbrev pub weight_of : Bool → List (List ℕ) → Option ℕ
weight_of weighted [] = Some 1
weight_of weighted (field ∷ fields) = if weighted then number_below WEIGHT_LIMIT field else Some 1

-- An edge line is read from left to right: the source, then the target, then the weight. The first field that is wrong
-- decides. Here both ids are read.
abbrev pub weighed_line : ℕ → ℕ → Option ℕ → Line
weighed_line a b (Some w) = an_edge (record { source = a; target = b; weight = w })
weighed_line a b None = faulty bad_weight

-- the same, where the source is read and these fields are left
abbrev pub target_line : Bool → ℕ → List (List ℕ) → Line
target_line weighted a [] = faulty missing
target_line weighted a (field ∷ fields) = elim (number_below ID_LIMIT field) [ Some b ↦ weighed_line a b (weight_of weighted fields) | None ↦ faulty bad_id ]

-- the same for all fields of a line
abbrev pub source_line : Bool → List (List ℕ) → Line
source_line weighted [] = skipped
source_line weighted (field ∷ fields) = elim (number_below ID_LIMIT field) [ Some a ↦ target_line weighted a fields | None ↦ faulty bad_id ]

-- the line begins with # or %
abbrev pub is_comment : List ℕ → Bool
is_comment line = slice_index line 0 == 35 || slice_index line 0 == 37

-- what the line says; a comment and a line without fields say nothing
abbrev pub line_of : Bool → List ℕ → Line
line_of weighted line = if is_comment line then skipped else source_line weighted (fields_of (without_return line))

-- ---- the first fault

-- a fault and the number of its line; lines count from 1
pub record Fault : Type 0 where
  pub line : ℕ
  pub what : LineFault

-- ---- ids and positions

-- the ids of both ends of each edge
abbrev pub ends_of : List IdEdge → List ℕ
ends_of edges = flat_map (λ e. e.source ∷ e.target ∷ []) edges

-- the edge with its ends named by where their ids stand in the list
abbrev pub placed_edge : List ℕ → IdEdge → Edge
placed_edge ids e = record { source = place_of ids e.source; target = place_of ids e.target; weight = e.weight }

-- The list has all ids of the edges once each, rising, and the edges in their order with their ends by position.
pub record IsEdgeListOf (edges : List IdEdge) (list : EdgeList) : Type 0 where
  pub rising : IsStrictlyIncreasing list.ids
  pub members : (id : ℕ) → Contains list.ids id ↔ Contains (ends_of edges) id
  pub placed : list.edges ≡ map (placed_edge list.ids) edges

-- The list is within the limits on ids, weights, vertices and edges, and each end of an edge is one of its vertices.
pub record EdgeListFits (list : EdgeList) : Type 0 where
  pub vertices : length list.ids ≤ MOST_VERTICES
  pub lines : length list.edges ≤ MOST_EDGES
  pub ids : All (λ id. id < ID_LIMIT) list.ids
  pub ends : All (λ e. (e.source < length list.ids) × (e.target < length list.ids) × IsWeight e.weight) list.edges
