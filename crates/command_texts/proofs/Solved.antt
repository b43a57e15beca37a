-- What a job comes to once its input is read.
use Rattle.std.proofs.Common.{◌≡◌, ℕ, true, false, List, [], refl, sym, ap, subst}
use Rattle.std.specs.Prelude.{IfSome, Option, None, Some, Result, Ok, Err, IsTrue}
use Rattle.px_base.specs.declared.program.Class.{Class}
use Rattle.px_base.specs.declared.graph.EdgeList.{EdgeList}
use Rattle.px_base.specs.Lines.{IdEdge, IsEdgeListOf}
use Rattle.px_base.specs.Inputs.{InputFault, input_of, input_limits}
use Rattle.px_io.proofs.Known.{consumes_none}
use Rattle.edge_reader.specs.declared.fault.EdgeFault.{EdgeFault}
use Rattle.edge_reader.specs.declared.fault.EdgeFault.TheVariants as fault
use Rattle.edge_reader.specs.Readings.{Says, IsReadingOf}
use Rattle.command_ends.specs.declared.stop.Stop.{Stop}
use Rattle.command_ends.specs.declared.stop.Stop.TheVariants as stop
use Rattle.command_texts.specs.declared.job.Job.{Job}
use Rattle.command_texts.specs.declared.job.Job.TheVariants as job
use Rattle.command_texts.specs.Jobs.{reads_source, reads_weights}
use Rattle.command_texts.specs.Endings.{stopped, classified, after_edges, after_input, ending_of}
use Rattle.command_texts.specs.Solutions.{is_decided_fault, EndsAs, IsOfEdges, IsSolution}

-- a job that reads its input ends as the input says
pub by_input : (this : Job) → reads_source (Ok this) ≡ true → (bytes : List ℕ) → ending_of (Ok this) bytes ≡ after_input this (input_of input_limits (reads_weights (Ok this)) bytes)
unfolding ending_of
by_input (job.Run program sources workers) reads bytes = refl
by_input (job.Solve program sources unweighted) reads bytes = refl
by_input (job.Classify class) reads bytes = absurd (let no : false ≡ true = reads in cc)
by_input (job.Parts program workers unweighted) reads bytes = refl

said_stops : (this : Job) (what : EdgeFault) (outcome : Result (List IdEdge) InputFault) → Says (Err what) outcome → IsTrue (is_decided_fault what) → after_input this outcome ≡ stopped (stop.Input what)
said_stops this (fault.Missing line) outcome said decided = rw said refl
said_stops this (fault.BadId line) outcome said decided = rw said refl
said_stops this (fault.BadWeight line) outcome said decided = rw said refl
said_stops this fault.TooManyVertices outcome said decided = rw said refl
said_stops this fault.TooManyEdges outcome said decided = rw said refl
said_stops this fault.TooLong outcome said decided = rw said refl
said_stops this fault.ReadFault outcome said decided = absurd (let no : false ≡ true = decided in cc)
said_stops this fault.Memory outcome said decided = absurd (let no : false ≡ true = decided in cc)

-- the input is refused
pub input_stops : (this : Job) (left rest : Option (List ℕ)) (what : EdgeFault) → reads_source (Ok this) ≡ true → IsReadingOf (reads_weights (Ok this)) left rest (Err what) → IsSolution (Ok this) left rest (Err (stop.Input what))
input_stops this left rest what reads r = record {
  bytes = r.bytes;
  told = r.told;
  ends = λ decided. rw (by_input this reads r.bytes) (said_stops this what (input_of input_limits (reads_weights (Ok this)) r.bytes) r.said decided);
  ended = λ h k. absurd (let no : false ≡ true = h in cc);
  taken = r.taken;
  lost = r.lost;
  met = λ h. r.met (let same : what ≡ fault.ReadFault = cc in ap Err same);
}

no_read_fault : (result : Result (List ℕ) Stop) → IsOfEdges result → result ≡ Err (stop.Input fault.ReadFault) → ⊥
no_read_fault result own is = let own : IsOfEdges (Err (stop.Input fault.ReadFault)) = subst (λ r. IsOfEdges r) is own in own

-- the list was read, and this came of it
pub list_ends : (this : Job) (left rest : Option (List ℕ)) (list : EdgeList) (result : Result (List ℕ) Stop) → reads_source (Ok this) ≡ true → IsReadingOf (reads_weights (Ok this)) left rest (Ok list) →
    ((edges : List IdEdge) → IsEdgeListOf edges list → EndsAs (after_edges this edges) result) → IsOfEdges result → IsSolution (Ok this) left rest result
list_ends this left rest list result reads r ends own =
    let edges : List IdEdge = r.said.0 in
    record {
      bytes = r.bytes;
      told = r.told;
      ends = subst (λ e. EndsAs e result) (sym (by_input this reads r.bytes)) (subst (λ o. EndsAs (after_input this o) result) (sym r.said.1) (ends edges r.said.2));
      ended = λ h k. r.ended refl;
      taken = r.taken;
      lost = r.lost;
      met = λ h. absurd (no_read_fault result own h);
    }

abbrev pub bytes_of : Option (List ℕ) → List ℕ
bytes_of None = []
bytes_of (Some bytes) = bytes

pub told_of : (left : Option (List ℕ)) → IfSome left (λ all. all ≡ bytes_of left)
told_of None = tt
told_of (Some bytes) = refl

-- the class needs no input
pub class_ends : (class : Class) (left : Option (List ℕ)) (result : Result (List ℕ) Stop) → EndsAs (classified class) result → IsOfEdges result → IsSolution (Ok (job.Classify class)) left left result
unfolding ending_of
class_ends class left result ends own = record {
  bytes = bytes_of left;
  told = told_of left;
  ends = ends;
  ended = λ h k. absurd (let no : false ≡ true = k in cc);
  taken = [];
  lost = consumes_none left;
  met = λ h. absurd (no_read_fault result own h);
}
