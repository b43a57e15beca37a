-- How a command ends on an input, in the order in which faults are looked for: the words, the program, its class and, where
-- it is to be solved for, the number of sources (all these make its plan), then the input, then the sources.
use Rattle.std.specs.Prelude.{◌≡◌, ℕ, List, Option, Some, None, Result, Ok, Err}
use Rattle.px_base.specs.declared.program.Program.{Program}
use Rattle.px_base.specs.declared.program.Class.{Class}
use Rattle.px_base.specs.Lines.{IdEdge, LineFault, missing, bad_id, bad_weight, ends_of}
use Rattle.px_base.specs.Starts.{first_unknown}
use Rattle.px_base.specs.Inputs.{InputFault, bad_line, too_many_edges, too_long, too_many_vertices, input_limits, input_of}
use Rattle.px_base.specs.AnswerTexts.{IsAnswerText}
use Rattle.edge_reader.specs.declared.fault.EdgeFault.{EdgeFault}
use Rattle.edge_reader.specs.declared.fault.EdgeFault.TheVariants as fault
use Rattle.command_ends.specs.declared.stop.Stop.{Stop}
use Rattle.command_ends.specs.declared.stop.Stop.TheVariants as stop
use Rattle.command_texts.specs.declared.job.Job.{Job}
use Rattle.command_texts.specs.declared.job.Job.TheVariants as job
use Rattle.command_texts.specs.Jobs.{reads_weights}
use Rattle.command_texts.specs.Texts.{class_text, IsPartsText}

-- The endings: why it stopped, or what its text says: the answer of a program on these edges from these sources, a class, or
-- the parts of a program's graph on these edges for so many workers.
pub data Ending : Type 0 where
  stopped : Stop → Ending
  answered : Program → List ℕ → List IdEdge → Ending
  classified : Class → Ending
  parted : Program → ℕ → List IdEdge → Ending

-- the fault of a line, as the reader answers it
abbrev pub line_fault : ℕ → LineFault → EdgeFault
line_fault line missing = fault.Missing line
line_fault line bad_id = fault.BadId line
line_fault line bad_weight = fault.BadWeight line

-- the fault of an input, as the reader answers it
abbrev pub edge_fault : InputFault → EdgeFault
edge_fault (bad_line f) = line_fault f.line f.what
edge_fault too_many_edges = fault.TooManyEdges
edge_fault too_long = fault.TooLong
edge_fault too_many_vertices = fault.TooManyVertices

-- how it ends where this is the first source that is no end of an edge, if there is one
abbrev pub after_lookup : Program → List ℕ → List IdEdge → Option ℕ → Ending
after_lookup program sources edges (Some id) = stopped (stop.UnknownSource id)
after_lookup program sources edges None = answered program sources edges

-- how it ends once the sources are looked up
abbrev pub after_sources : Program → List ℕ → List IdEdge → Ending
after_sources program sources edges = after_lookup program sources edges (first_unknown (ends_of edges) sources)

-- how it ends once the input is read
abbrev pub after_edges : Job → List IdEdge → Ending
after_edges (job.Run program sources workers) edges = after_sources program sources edges
after_edges (job.Solve program sources unweighted) edges = after_sources program sources edges
after_edges (job.Classify class) edges = classified class
after_edges (job.Parts program workers unweighted) edges = parted program workers edges

-- the same, where the input may be refused
abbrev pub after_input : Job → Result (List IdEdge) InputFault → Ending
after_input this (Err what) = stopped (stop.Input (edge_fault what))
after_input this (Ok edges) = after_edges this edges

-- how the job ends on these bytes; a class needs no input
abbrev pub job_ending : Job → List ℕ → Ending
job_ending (job.Classify class) bytes = classified class
job_ending this bytes = after_input this (input_of input_limits (reads_weights (Ok this)) bytes)

-- how a plan ends on these bytes
unfoldable pub ending_of : Result Job Stop → List ℕ → Ending
ending_of (Err why) bytes = stopped why
ending_of (Ok this) bytes = job_ending this bytes

-- the text of an ending; a stop has none
abbrev pub IsEndingText : Ending → List ℕ → Type 0
IsEndingText (stopped why) text = ⊥
IsEndingText (answered program sources edges) text = IsAnswerText program sources edges text
IsEndingText (classified class) text = text ≡ class_text class
IsEndingText (parted program workers edges) text = IsPartsText program workers edges text
