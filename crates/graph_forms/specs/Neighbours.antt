-- What is collected from edges.
use Rattle.std.specs.Prelude.{◌≡◌, ℕ, Bool, true, List, [], ◌∷◌, All, Contains, ◌==◌, map, if◌then◌else◌}
use Rattle.std.specs.List.Sorted.{IsStrictlyIncreasing}
use Rattle.px_base.specs.declared.graph.Edge.{Edge}
use Rattle.px_base.specs.declared.graph.Read.{Read}
use Rattle.px_base.specs.declared.program.Form.{Form}
use Rattle.px_base.specs.declared.program.Form.TheVariants.{Given, Back}
use Rattle.px_base.specs.Graphs.{unit_read}
use Rattle.row_blocks.specs.declared.told.Direction.{Direction}
use Rattle.row_blocks.specs.declared.told.Direction.TheVariants as direction

-- the form in which the edges are read this way
abbrev pub form_of : Direction → Form
form_of direction.Forward = Given
form_of direction.Backward = Back

-- the end of the edge that v gets to read: none where the edge is a loop, or v is no end of it
abbrev pub other_end : Edge → ℕ → List ℕ
other_end e v =
    if e.source == e.target then []
    else (if e.target == v then e.source ∷ [] else (if e.source == v then e.target ∷ [] else []))

-- what passes the test stands in the list, at least once, and nothing else does
pub record HasMembers (test : ℕ → Bool) (items : List ℕ) : Type 0 where
  pub within : All (λ u. test u ≡ true) items
  pub each : (u : ℕ) → test u ≡ true → Contains items u

-- the list rises, and has the same members as the other
pub record IsSetOf (items set : List ℕ) : Type 0 where
  pub rising : IsStrictlyIncreasing set
  pub within : (u : ℕ) → Contains set u → Contains items u
  pub each : (u : ℕ) → Contains items u → Contains set u

-- the row reads each of these members once, with weight 1
pub record ReadsMembers (items : List ℕ) (row : List Read) : Type 0 where
  pub members : List ℕ
  pub set : IsSetOf items members
  pub reads : row ≡ map unit_read members
