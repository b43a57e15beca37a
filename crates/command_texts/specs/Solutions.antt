-- What a job comes to, before anything is written.
use Rattle.std.specs.Prelude.{◌≡◌, ℕ, Bool, true, false, IsTrue, IsOk, IfSome, ⊤, List, Option, Result, Ok, Err, Vec}
use Rattle.std.specs.declared.alloc.Global.{Global}
use Rattle.std.specs.Io.KnownBytes.{Consumes, IsAtEnd}
use Rattle.edge_reader.specs.declared.fault.EdgeFault.{EdgeFault}
use Rattle.edge_reader.specs.declared.fault.EdgeFault.TheVariants as fault
use Rattle.edge_reader.specs.Readings.{HasNoFault}
use Rattle.command_ends.specs.declared.stop.Stop.{Stop}
use Rattle.command_ends.specs.declared.stop.Stop.TheVariants as stop
use Rattle.command_texts.specs.declared.job.Job.{Job}
use Rattle.command_texts.specs.Jobs.{reads_source, reads_weights}
use Rattle.command_texts.specs.Endings.{Ending, stopped, ending_of, IsEndingText}

-- the input decides the fault; else its source failed, or memory was wanting
abbrev pub is_decided_fault : EdgeFault → Bool
is_decided_fault fault.ReadFault = false
is_decided_fault fault.Memory = false
is_decided_fault _ = true

-- the words and the input decide the stop; else the source or the sink failed, or memory was wanting
abbrev pub is_decided : Stop → Bool
is_decided (stop.Input what) = is_decided_fault what
is_decided stop.WriteFault = false
is_decided stop.Memory = false
is_decided _ = true

-- The text is that of the ending. A stop that the words and the input decide is the ending.
abbrev pub EndsAs : Ending → Result (List ℕ) Stop → Type 0
EndsAs ending (Ok text) = IsEndingText ending text
EndsAs ending (Err why) = IsTrue (is_decided why) → ending ≡ stopped why

-- a text, or a stop that comes once the edges are read
abbrev pub IsOfEdges : Result (List ℕ) Stop → Type 0
IsOfEdges (Ok text) = ⊤
IsOfEdges (Err (stop.UnknownSource id)) = ⊤
IsOfEdges (Err stop.Memory) = ⊤
IsOfEdges (Err _) = ⊥

-- What a call that follows the plan answers. Where the source tells its bytes, they are all that were left; where it
-- doesn't, there are some bytes of which all this holds.
pub record IsSolution (plan : Result Job Stop) (left rest : Option (List ℕ)) (result : Result (List ℕ) Stop) : Type 0 where
  pub bytes : List ℕ
  pub told : IfSome left (λ all. all ≡ bytes)
  pub ends : EndsAs (ending_of plan bytes) result
  pub ended : IsOk result → IsTrue (reads_source plan) → IsAtEnd rest
  -- what was taken of them, and that a fault of the source was the first one
  pub taken : List ℕ
  pub lost : Consumes left rest taken
  pub met : result ≡ Err (stop.Input fault.ReadFault) → HasNoFault (reads_weights plan) taken

-- the answer with the bytes of its text
abbrev pub with_text : Result (Vec ℕ Global) Stop → Result (List ℕ) Stop
with_text (Ok text) = Ok text.items
with_text (Err why) = Err why
