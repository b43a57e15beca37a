-- What a call of the program comes to: why it stopped, if it did, and what it made of the source, the sink and the faults.
use Rattle.std.specs.Prelude.{◌≡◌, ◌⊎◌, ℕ, Bool, ⊤, IsTrue, IsOk, IfSome, List, [], ◌∷◌, Option, Result, Ok, Err, MatchResult}
use Rattle.std.specs.Io.KnownBytes.{Keeps, Appends, Consumes, IsAtEnd}
use Rattle.px_base.specs.Values.{is_listed}
use Rattle.edge_reader.specs.declared.fault.EdgeFault.TheVariants as fault
use Rattle.edge_reader.specs.Readings.{HasNoFault}
use Rattle.px_io.specs.Causes.{AppendsPrefix}
use Rattle.command_ends.specs.declared.stop.FrameFault.TheVariants as frame
use Rattle.command_ends.specs.declared.stop.Stop.{Stop}
use Rattle.command_ends.specs.declared.stop.Stop.TheVariants as stop
use Rattle.command_ends.specs.Stops.{stop_status}
use Rattle.command_ends.specs.Lines.{stop_line, IsLineAdded}
use Rattle.command_texts.specs.declared.job.Job.{Job}
use Rattle.command_texts.specs.declared.job.Plan.{Plan}
use Rattle.command_texts.specs.declared.job.Plan.TheVariants as plan
use Rattle.command_texts.specs.Jobs.{reads_source, reads_weights}
use Rattle.command_texts.specs.Endings.{Ending, stopped, ending_of, IsEndingText}
use Rattle.command_texts.specs.Solutions.{is_decided}
use Rattle.worker_serve.specs.declared.end.ServeEnd.{ServeEnd}
use Rattle.worker_serve.specs.declared.end.ServeEnd.TheVariants as end
use Rattle.worker_serve.specs.Streams.{IsServed}

-- a call that wrote its whole text, or stopped
abbrev pub Outcome : Type 0
Outcome = Result (Unit {0}) Stop

-- the status of an outcome
abbrev pub status_of : Outcome → ℕ
status_of (Ok done) = 0
status_of (Err why) = stop_status why

-- the statuses that the program has
abbrev pub is_status : ℕ → Bool
is_status status = is_listed (0 ∷ 2 ∷ 3 ∷ 4 ∷ 5 ∷ 6 ∷ 7 ∷ 11 ∷ 12 ∷ 13 ∷ []) status

-- the ending has a text, and the sink grew by it, where it tells what was written
pub record WritesText (ending : Ending) (old new : Option (List ℕ)) : Type 0 where
  pub text : List ℕ
  pub right : IsEndingText ending text
  pub written : Appends old new text

-- the ending has a text, and the sink grew by its first bytes, maybe none
pub record WritesPrefix (ending : Ending) (old new : Option (List ℕ)) : Type 0 where
  pub text : List ℕ
  pub right : IsEndingText ending text
  pub written : AppendsPrefix old new text

-- The outcome is the ending's: a whole text where the ending has one, and a stop that the words and the input decide just
-- where the ending is that stop. The others, for which source, sink or memory are the cause, may come in place of any.
abbrev pub Ends : Ending → Outcome → Option (List ℕ) → Option (List ℕ) → Type 0
Ends ending (Ok done) old new = WritesText ending old new
Ends ending (Err stop.WriteFault) old new = WritesPrefix ending old new
Ends ending (Err stop.Memory) old new = Keeps old new ⊎ WritesPrefix ending old new
Ends ending (Err why) old new = (IsTrue (is_decided why) → ending ≡ stopped why) × Keeps old new

-- What a call that follows a plan to write a text, or to stop, made of the bytes that were left in the source, and of the
-- sink, by its outcome. Where the source tells its bytes, they are all that were left. Where it doesn't, there are some
-- bytes of which all this holds, so what is written is the text on some input there too.
pub record IsTextRun (plan : Result Job Stop) (outcome : Outcome) (left rest old new : Option (List ℕ)) : Type 0 where
  pub bytes : List ℕ
  pub told : IfSome left (λ all. all ≡ bytes)
  pub ends : Ends (ending_of plan bytes) outcome old new
  pub ended : IsOk outcome → IsTrue (reads_source plan) → IsAtEnd rest
  -- what was taken of the bytes, and that a fault of the source was the first one
  pub taken : List ℕ
  pub lost : Consumes left rest taken
  pub met : outcome ≡ Err (stop.Input fault.ReadFault) → HasNoFault (reads_weights plan) taken

-- the outcome of a worker whose serving ended so
abbrev pub outcome_of : ServeEnd → Outcome
outcome_of end.End = Ok tt
outcome_of (end.Torn at) = Err (stop.Frame at frame.NotAFrame)
outcome_of (end.Cut at) = Err (stop.Frame at frame.Cut)
outcome_of (end.Refused at) = Err (stop.Frame at frame.Refused)
outcome_of end.TooLong = Err stop.TooManyFrameBytes
outcome_of end.ReadFault = Err (stop.Input fault.ReadFault)
outcome_of end.WriteFault = Err stop.WriteFault
outcome_of end.Memory = Err stop.Memory

-- A worker was served, and this is the outcome of the way in which that ended.
pub record IsServeRun (outcome : Outcome) (left rest old new : Option (List ℕ)) : Type 0 where
  pub why : ServeEnd
  pub is : outcome ≡ outcome_of why
  pub served : IsServed left rest old new why

-- what a call that follows the plan made of source and sink, by its outcome
abbrev pub IsRunOf : Result Plan Stop → Outcome → Option (List ℕ) → Option (List ℕ) → Option (List ℕ) → Option (List ℕ) → Type 0
IsRunOf (Err why) outcome left rest old new = IsTextRun (Err why) outcome left rest old new
IsRunOf (Ok (plan.Write this)) outcome left rest old new = IsTextRun (Ok this) outcome left rest old new
IsRunOf (Ok plan.Serve) outcome left rest old new = IsServeRun outcome left rest old new

-- The status is that of an outcome of the plan, and where it stopped the line that says why was added to the faults: said
-- are the bytes there, before and after, with the counts of faults and wants.
pub record IsCallOf (plan : Result Plan Stop) (status : ℕ) (left rest old new said_before said_now : Option (List ℕ)) (faults_before faults_now wants_before wants_now : ℕ) : Type 0 where
  pub outcome : Outcome
  pub status_is : status ≡ status_of outcome
  pub run : IsRunOf plan outcome left rest old new
  pub line : MatchResult outcome (λ done. ⊤) (λ why. IsLineAdded (stop_line why) said_before said_now faults_before faults_now wants_before wants_now)
