-- The lines that are read so far.
use Rattle.std.specs.Prelude.{◌≡◌, ◌≢◌, ⊤, ℕ, ◌+◌, ◌≤◌, Bool, List, [], ◌∷◌, ◌++◌, take, ◌==◌, Option, Result, Ok, Err, length, map}
use Rattle.std.specs.Io.KnownBytes.{Consumes, IsAtEnd}
use Rattle.px_base.specs.Lines.{IdEdge, ends_of, pieces_at}
use Rattle.px_base.specs.Inputs.{edges_within, input_limits, ended_lines}
use Rattle.edge_reader.specs.declared.fault.EdgeFault.{EdgeFault}
use Rattle.edge_reader.specs.declared.fault.EdgeFault.TheVariants.{Missing, BadId, BadWeight, TooManyVertices, TooManyEdges, TooLong, ReadFault, Memory}
use Rattle.edge_reader.specs.declared.lines.ReadLines.{ReadLines}
use Rattle.edge_reader.specs.Readings.{Says, IsReadingOf}
use Rattle.edge_reader.specs.declared.scan.Scan.{Scan}
use Rattle.edge_reader.specs.Scans.{scanned}

-- the text cut at its newlines; what follows the last one is a piece too
abbrev pub newline_pieces : List ℕ → List (List ℕ)
newline_pieces text = pieces_at (λ b. b == 10) text

-- the last piece
abbrev pub last_of : List (List ℕ) → List ℕ
last_of [] = []
last_of (piece ∷ []) = piece
last_of (piece ∷ next ∷ pieces) = last_of (next ∷ pieces)

-- what stands after the last newline
abbrev pub open_line : List ℕ → List ℕ
open_line text = last_of (newline_pieces text)

-- the lines have these edges, which are within the limit
pub record AreRead (lines : List (List ℕ)) (read : ReadLines) : Type 0 where
  pub edges : List IdEdge
  pub said : edges_within read.weighted 1 input_limits.edges lines ≡ Ok edges
  pub line : read.line ≡ length lines + 1
  pub ends : read.ends.items ≡ ends_of edges
  pub weights : read.weights.items ≡ map (λ e. e.weight) edges
  pub few : length edges ≤ input_limits.edges

-- the first fault of these lines, or want of memory
pub record IsLineFault (weighted : Bool) (lines : List (List ℕ)) (fault : EdgeFault) : Type 0 where
  pub said : Says (Err fault) (edges_within weighted 1 input_limits.edges lines)
  pub own : fault ≢ ReadFault
  pub early : fault ≢ TooManyVertices

-- these lines are read, or have a fault
abbrev pub Adds : List (List ℕ) → ReadLines → {T : Type 0} → Result T EdgeFault → Type 0
Adds lines read (Ok done) = AreRead lines read
Adds lines read (Err fault) = IsLineFault read.weighted lines fault

-- why one more edge isn't added to so many
abbrev pub RefusesEdge : ℕ → EdgeFault → Type 0
RefusesEdge count TooManyEdges = input_limits.edges ≤ count
RefusesEdge count Memory = ⊤
RefusesEdge count (Missing line) = ⊥
RefusesEdge count (BadId line) = ⊥
RefusesEdge count (BadWeight line) = ⊥
RefusesEdge count TooManyVertices = ⊥
RefusesEdge count TooLong = ⊥
RefusesEdge count ReadFault = ⊥

-- the lines of this text are read as far as they ended, and the scan knows the open one
abbrev pub IsFed : List ℕ → ReadLines → Scan → Type 0
IsFed text read scan = AreRead (ended_lines text) read × (scan ≡ scanned read.weighted (open_line text))

-- that, or a line that ended has a fault
abbrev pub Feeds : {T : Type 0} → List ℕ → ReadLines → Scan → Result T EdgeFault → Type 0
Feeds text read scan (Ok done) = IsFed text read scan
Feeds text read scan (Err fault) = IsLineFault read.weighted (ended_lines text) fault

-- the same, where the scan is the answer
abbrev pub FeedsOn : List ℕ → ReadLines → Result Scan EdgeFault → Type 0
FeedsOn text read (Ok scan) = IsFed text read scan
FeedsOn text read (Err fault) = IsLineFault read.weighted (ended_lines text) fault

-- the text is read on up to a place of a piece, or a line that ended in the piece has a fault
abbrev pub FeedsUpTo : List ℕ → List ℕ → ReadLines → Scan → Result ℕ EdgeFault → Type 0
FeedsUpTo text piece read scan (Ok next) = IsFed (text ++ take next piece) read scan
FeedsUpTo text piece read scan (Err fault) = IsLineFault read.weighted (ended_lines (text ++ piece)) fault

-- all lines of the input are read, the last one too
pub record AreAllRead (weighted : Bool) (left rest : Option (List ℕ)) (read : ReadLines) : Type 0 where
  pub text : List ℕ
  pub lost : Consumes left rest text
  pub ended : IsAtEnd rest
  pub short : length text ≤ input_limits.bytes
  pub lines : AreRead (newline_pieces text) read
  pub same : read.weighted ≡ weighted

-- the input is read to its end, or has a fault
abbrev pub ReadsAll : {T : Type 0} → Bool → Option (List ℕ) → Option (List ℕ) → ReadLines → Result T EdgeFault → Type 0
ReadsAll weighted left rest read (Ok done) = AreAllRead weighted left rest read
ReadsAll weighted left rest read (Err fault) = IsReadingOf weighted left rest (Err fault)
