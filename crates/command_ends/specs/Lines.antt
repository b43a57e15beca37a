-- The line that each way to stop is reported by.
use Rattle.std.specs.Prelude.{◌≡◌, ℕ, ◌⊎◌, List, [], ◌∷◌, ◌++◌, codes, decimal, Option}
use Rattle.std.specs.Io.KnownBytes.{Appends}
use Rattle.px_base.specs.declared.TheConstants.{MOST_EDGES, MOST_VERTICES}
use Rattle.px_base.specs.declared.program.Refused.{Refused}
use Rattle.px_base.specs.declared.program.Refused.TheVariants as refused
use Rattle.px_base.specs.declared.row_fault.RowFault.{RowFault}
use Rattle.px_base.specs.declared.row_fault.RowFault.TheVariants as row
use Rattle.edge_reader.specs.declared.fault.EdgeFault.{EdgeFault}
use Rattle.edge_reader.specs.declared.fault.EdgeFault.TheVariants as fault
use Rattle.px_io.specs.Causes.{Rose, AppendsPrefix}
use Rattle.command_words.specs.declared.command.ProgramFault.{ProgramFault}
use Rattle.command_words.specs.declared.command.ProgramFault.TheVariants as program
use Rattle.command_ends.specs.declared.stop.FrameFault.{FrameFault}
use Rattle.command_ends.specs.declared.stop.FrameFault.TheVariants as frame
use Rattle.command_ends.specs.declared.stop.Stop.{Stop}
use Rattle.command_ends.specs.declared.stop.Stop.TheVariants as stop

-- a number between two texts
unfoldable pub numbered : List ℕ → ℕ → List ℕ → List ℕ
numbered before n after = before ++ (decimal n ++ after)

-- a fault of the input
abbrev pub input_text : EdgeFault → List ℕ
input_text (fault.Missing line) = numbered (codes "line ") line (codes ": vertex missing")
input_text (fault.BadId line) = numbered (codes "line ") line (codes ": bad vertex")
input_text (fault.BadWeight line) = numbered (codes "line ") line (codes ": bad weight")
input_text fault.TooManyVertices = numbered (codes "more than ") MOST_VERTICES (codes " vertices")
input_text fault.TooManyEdges = numbered (codes "more than ") MOST_EDGES (codes " edge lines")
input_text fault.TooLong = codes "more than 4294967295 bytes"
input_text fault.ReadFault = codes "read fault"
input_text fault.Memory = codes "out of memory"

-- a fault of a row
abbrev pub row_fault_text : RowFault → List ℕ
row_fault_text (row.Missing field) = numbered (codes "row field ") field (codes ": missing")
row_fault_text (row.Unknown field) = numbered (codes "row field ") field (codes ": unknown word")
row_fault_text (row.Number field) = numbered (codes "row field ") field (codes ": bad number")
row_fault_text row.Trailing = codes "row: more than six fields"

-- a word that is no program
abbrev pub program_text : ProgramFault → List ℕ
program_text program.Unknown = codes "unknown program"
program_text (program.BadRow what) = row_fault_text what

-- a program without a class
abbrev pub refused_text : Refused → List ℕ
refused_text refused.CountForm = codes "program refused: count needs the k-core form"
refused_text refused.MexKept = codes "program refused: mex needs drop"
refused_text refused.Cyclic = codes "program refused: drop needs an earlier order"
refused_text (refused.Improves x w) = numbered (codes "program refused: edge value improves ") x (codes " at weight " ++ decimal w)

-- the frame after so many bytes
abbrev pub frame_text : ℕ → FrameFault → List ℕ
frame_text at frame.NotAFrame = numbered (codes "frame at byte ") at (codes ": not a frame")
frame_text at frame.Cut = numbered (codes "frame at byte ") at (codes ": cut")
frame_text at frame.Refused = numbered (codes "frame at byte ") at (codes ": refused")

-- why the command stopped
abbrev pub stop_text : Stop → List ℕ
stop_text stop.BadWords = codes "bad words"
stop_text stop.NeedsSource = codes "this program needs a source"
stop_text stop.TakesNoSource = codes "this program takes no source"
stop_text (stop.Program what) = program_text what
stop_text (stop.Refused why) = refused_text why
stop_text stop.ClassNotBuilt = codes "class not built"
stop_text (stop.Input what) = input_text what
stop_text (stop.UnknownSource id) = numbered (codes "source ") id (codes " is in no edge line")
stop_text (stop.Frame at what) = frame_text at what
stop_text stop.TooManyFrameBytes = codes "too many frame bytes"
stop_text stop.WriteFault = codes "write fault"
stop_text stop.Memory = codes "out of memory"

-- ---- the whole line

-- the line with this text
unfoldable pub line_of : List ℕ → List ℕ
line_of text = codes "phoenix: " ++ (text ++ 10 ∷ [])

-- why the command stopped, as a line
abbrev pub stop_line : Stop → List ℕ
stop_line why = line_of (stop_text why)

-- The line is appended to known bytes, and the sink had no fault and no want; or a prefix of it is, and the sink had one of
-- them, once.
pub record IsLineAdded (line : List ℕ) (old new : Option (List ℕ)) (faults_before faults_now wants_before wants_now : ℕ) : Type 0 where
  pub partly : AppendsPrefix old new line
  pub whole : (Appends old new line × (faults_now ≡ faults_before) × (wants_now ≡ wants_before))
      ⊎ ((Rose faults_before faults_now × (wants_now ≡ wants_before)) ⊎ ((faults_now ≡ faults_before) × Rose wants_before wants_now))
