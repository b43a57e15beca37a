-- A call that stops without a text.
use Rattle.std.proofs.Common.{◌≡◌, ℕ, false, true, List, [], refl, inl, ap, subst}
use Rattle.std.specs.Prelude.{IfErr, IsTrue, Option, Some, None, Result, Ok, Err}
use Rattle.std.specs.Io.KnownBytes.{Keeps}
use Rattle.edge_reader.specs.declared.fault.EdgeFault.TheVariants as fault
use Rattle.command_ends.specs.declared.stop.Stop.{Stop}
use Rattle.command_ends.specs.declared.stop.Stop.TheVariants as stop
use Rattle.command_words.specs.declared.command.Command.{Command}
use Rattle.command_texts.specs.declared.job.Job.{Job}
use Rattle.command_texts.specs.declared.job.Plan.{Plan}
use Rattle.command_texts.specs.declared.job.Plan.TheVariants as plan
use Rattle.command_texts.specs.Plans.{plan_of}
use Rattle.command_texts.specs.Endings.{Ending, stopped, ending_of}
use Rattle.command_texts.specs.Solutions.{IsSolution, is_decided}
use Rattle.px_io.proofs.Known.{consumes_none}
use Rattle.command_texts.proofs.Solved.{bytes_of, told_of}
use Rattle.worker_serve.specs.declared.end.ServeEnd.TheVariants as end
use Rattle.worker_serve.proofs.Passing.{wants_at_once}
use Rattle.phoenix_cli.specs.Calls.{Ends, IsRunOf, IsTextRun, Outcome}

keeps_all : (old : Option (List ℕ)) → Keeps old old
keeps_all None = tt
keeps_all (Some xs) = refl

-- the outcome of a stop that wrote nothing
pub no_text_ends : (ending : Ending) (why : Stop) (old : Option (List ℕ)) → (why ≡ stop.WriteFault → ⊥) → (IsTrue (is_decided why) → ending ≡ stopped why) → Ends ending (Err why) old old
no_text_ends ending stop.BadWords old unwritten is = (is, keeps_all old)
no_text_ends ending stop.NeedsSource old unwritten is = (is, keeps_all old)
no_text_ends ending stop.TakesNoSource old unwritten is = (is, keeps_all old)
no_text_ends ending (stop.Program what) old unwritten is = (is, keeps_all old)
no_text_ends ending (stop.Refused why) old unwritten is = (is, keeps_all old)
no_text_ends ending stop.ClassNotBuilt old unwritten is = (is, keeps_all old)
no_text_ends ending (stop.Input what) old unwritten is = (is, keeps_all old)
no_text_ends ending (stop.UnknownSource id) old unwritten is = (is, keeps_all old)
no_text_ends ending (stop.Frame at what) old unwritten is = (is, keeps_all old)
no_text_ends ending stop.TooManyFrameBytes old unwritten is = (is, keeps_all old)
no_text_ends ending stop.WriteFault old unwritten is = absurd (unwritten refl)
no_text_ends ending stop.Memory old unwritten is = inl (keeps_all old)

-- a decided stop isn't the sink's
no_write_fault : (why : Stop) → IsTrue (is_decided why) → why ≡ stop.WriteFault → ⊥
no_write_fault why decided is = let no : false ≡ true = subst (λ w. IsTrue (is_decided w)) is decided in absurd (cc)

abbrev with_stop : Stop → Outcome
with_stop why = Err why

no_read_fault : (why : Stop) → IsTrue (is_decided why) → with_stop why ≡ with_stop (stop.Input fault.ReadFault) → ⊥
no_read_fault why decided same =
    let is : why ≡ stop.Input fault.ReadFault = cc in
    let no : false ≡ true = subst (λ w. IsTrue (is_decided w)) is decided in
    absurd (cc)

-- the job itself is a stop
text_stops : (why : Stop) (left old : Option (List ℕ)) → IsTrue (is_decided why) → IsTextRun (Err why) (Err why) left left old old
unfolding ending_of
text_stops why left old decided = record {
  bytes = bytes_of left;
  told = told_of left;
  ends = no_text_ends (stopped why) why old (no_write_fault why decided) (λ _. refl);
  ended = λ h k. absurd (let no : false ≡ true = h in cc);
  taken = [];
  lost = consumes_none left;
  met = λ h. absurd (no_read_fault why decided h);
}

-- the job came to no text
pub solution_stops : (this : Job) (why : Stop) (left rest old : Option (List ℕ)) → (why ≡ stop.WriteFault → ⊥) → IsSolution (Ok this) left rest (Err why) → IsTextRun (Ok this) (Err why) left rest old old
solution_stops this why left rest old unwritten found = record {
  bytes = found.bytes;
  told = found.told;
  ends = no_text_ends (ending_of (Ok this) found.bytes) why old unwritten found.ends;
  ended = λ h k. absurd (let no : false ≡ true = h in cc);
  taken = found.taken;
  lost = found.lost;
  met = λ h. found.met (let same : with_stop why ≡ with_stop (stop.Input fault.ReadFault) = h in let is : why ≡ stop.Input fault.ReadFault = cc in ap Err is);
}

-- the plan itself is a stop
pub plan_stops : (plan : Result Plan Stop) (why : Stop) (left old : Option (List ℕ)) → plan ≡ Err why → IsTrue (is_decided why) → IsRunOf plan (Err why) left left old old
plan_stops plan why left old is decided = rw is (text_stops why left old decided)

-- memory was wanting at once, for a text
text_wants : (this : Result Job Stop) (left old : Option (List ℕ)) → IsTextRun this (Err stop.Memory) left left old old
text_wants this left old = record {
  bytes = bytes_of left;
  told = told_of left;
  ends = inl (keeps_all old);
  ended = λ h k. absurd (let no : false ≡ true = h in cc);
  taken = [];
  lost = consumes_none left;
  met = λ h. absurd (cc);
}

-- memory was wanting at once
pub memory_stops : (plan : Result Plan Stop) (left old : Option (List ℕ)) → IsRunOf plan (Err stop.Memory) left left old old
memory_stops (Err why) left old = text_wants (Err why) left old
memory_stops (Ok (plan.Write this)) left old = text_wants (Ok this) left old
memory_stops (Ok plan.Serve) left old = record { why = end.Memory; is = refl; served = wants_at_once left old }

-- what follows of a plan that is a stop
pub stops_as : (plan : Result Plan Stop) (why : Stop) (outcome : Outcome) → plan ≡ Err why → IfErr plan (λ w. outcome ≡ Err w) → outcome ≡ Err why
stops_as plan why outcome is stops = rw is at stops

pub no_command : (command : Option Command) → command ≡ None → plan_of command ≡ Err stop.BadWords
unfolding plan_of
no_command command none = rw none refl
