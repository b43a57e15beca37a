-- One frame of a session.
use Rattle.std.proofs.Common.{◌≡◌, ℕ, ◌+◌, ◌-◌, ◌^◌, ◌<◌, min, true, false, List, [], ◌∷◌, ◌++◌, length, drop, refl, sym, ap, ◌∙◌, subst, arith}
use Rattle.std.specs.Prelude.{Option, Some, None, Result, Ok, Err}
use Rattle.std.proofs.lemmas.List.{append-nil}
use Rattle.px_base.specs.declared.wire.Answer.{Answer}
use Rattle.px_base.specs.declared.frame.Frame.{Frame}
use Rattle.px_base.specs.Frames.{spelling}
use Rattle.px_frames.specs.Decodings.{Fed, IsOldest, IsSound, IsTornAt, took_more, fed_more as fed_bytes}
use Rattle.worker_serve.specs.declared.end.ServeEnd.{ServeEnd}
use Rattle.worker_serve.specs.declared.end.ServeEnd.TheVariants as end
use Rattle.worker_serve.specs.declared.stage.TakeFault.{TakeFault}
use Rattle.worker_serve.specs.declared.stage.TakeFault.TheVariants as take_fault
use Rattle.worker_serve.specs.declared.stage.Stage.{Stage}
use Rattle.worker_serve.specs.Sessions.{Refuses}
use Rattle.worker_serve.specs.Talks.{Talk, fed_more, took_one, ended_by, end_of, Says, IsFed, IsPartly, IsTornAfter, answer_bytes}
use Rattle.worker_serve.specs.Stages.{IsStageAfter, IsStageNext, IsUpTo, GoesOn, KeepsTalk, IsStep, AreStepped, AllSays, end_of_fault}
use Rattle.worker_serve.proofs.Reading.{IsNext, next_frame, up_to_next, refused_next, took_short, all_taken, added_behind, partly, taken_whole, torn_after, up_to_more}

-- how far a session is whose decoder took as many frames
up_to : (talk : Talk) (fed : Fed) (now : Stage) (at : ℕ) → GoesOn talk fed now at → IsUpTo talk.bytes talk.told fed.took at now
up_to talk fed now at goes = subst (λ k. IsUpTo talk.bytes talk.told k at now) (sym goes.took) goes.up_to

pub next_of : (talk : Talk) (fed : Fed) (now : Stage) (at : ℕ) (this : Frame) → GoesOn talk fed now at → IsOldest fed (Some this) → IsNext talk.bytes talk.told fed.took at now this
next_of talk fed now at this goes oldest = next_frame fed talk.bytes talk.told at now this goes.bytes (up_to talk fed now at goes) oldest

pub step_none : (self talk : Talk) (fed : Fed) (now : Stage) (at : ℕ) (out : List ℕ) → talk ≡ self → talk.end ≡ None → GoesOn talk fed now at → IsOldest fed None → IsStep self talk out out (Ok false)
step_none self talk fed now at out same on goes oldest = record {
  more = [];
  added = sym (append-nil out);
  told = ap (λ t. t.told) same ∙ sym (append-nil self.told);
  bytes = ap (λ t. t.bytes) same;
  says = (on, all_taken fed talk.bytes talk.told at now goes.bytes (up_to talk fed now at goes) oldest);
}

-- What is there after a frame that was taken.
pub record IsTakenStep (self talk : Talk) (fed : Fed) (next : Stage) (at : ℕ) (ended : Option ServeEnd) (old new : List ℕ) : Type 0 where
  pub keeps : KeepsTalk talk fed next at ended
  pub step : IsStep self talk old new (Ok true)

pub step_taken : (self talk after : Talk) (fed fed' : Fed) (now next : Stage) (at at' : ℕ) (this : Frame) (ended : Option ServeEnd) (old new : List ℕ) → talk ≡ self → talk.end ≡ None → ended ≡ talk.end →
    GoesOn talk fed now at → IsOldest fed (Some this) → fed' ≡ took_more fed → ((frames : List Frame) (answers : List Answer) → IsStageAfter frames answers now → IsStageNext frames answers this old new next) →
    at' ≡ min (at + length (spelling this)) (2 ^ 62) → after ≡ took_one talk (drop (length old) new) → IsTakenStep self after fed' next at' ended old new
step_taken self talk after fed fed' now next at at' this ended old new same on is_end goes oldest took to place talk_is =
    let n = next_of talk fed now at this goes oldest in
    let stage = to n.it.frames n.it.answers n.it.stage in
    let then = up_to_next talk.bytes talk.told fed.took at now next this n old new stage in
    let count : fed.took + 1 ≡ after.took = ap (λ k. k + 1) goes.took ∙ sym (ap (λ t. t.took) talk_is) in
    let bytes : after.bytes ≡ talk.bytes = ap (λ t. t.bytes) talk_is in
    let now_up : IsUpTo after.bytes after.told after.took at' next =
    subst (λ k. IsUpTo after.bytes after.told k at' next) count
    (subst (λ p. IsUpTo after.bytes after.told (fed.took + 1) p next) (sym place)
    (subst (λ bs. IsUpTo after.bytes bs (fed.took + 1) (min (at + length (spelling this)) (2 ^ 62)) next) (sym (ap (λ t. t.told) talk_is))
    (subst (λ bs. IsUpTo bs (talk.told ++ drop (length old) new) (fed.took + 1) (min (at + length (spelling this)) (2 ^ 62)) next) (sym bytes) then))) in
    record {
      keeps = record {
        end = is_end ∙ sym (ap (λ t. t.end) talk_is);
        goes_on = λ _. record { bytes = ap (λ f. f.bytes) took ∙ goes.bytes ∙ sym bytes; took = ap (λ f. f.took) took ∙ count; up_to = now_up };
      };
      step = record {
        more = drop (length old) new;
        added = stage.added ∙ ap (λ xs. old ++ xs) (sym (added_behind old new (answer_bytes stage.more) stage.added));
        told = ap (λ t. t.told) talk_is ∙ ap (λ t. t.told ++ drop (length old) new) same;
        bytes = bytes ∙ ap (λ t. t.bytes) same;
        says = (ap (λ t. t.end) talk_is ∙ on, sym count ∙ ap (λ k. k + 1) (goes.took ∙ ap (λ t. t.took) same), took_short after.bytes after.told after.took at' next now_up);
      };
    }

-- a frame that isn't taken, or want of memory
pub step_ended : (self talk after : Talk) (fed : Fed) (now : Stage) (at : ℕ) (this : Frame) (fault : TakeFault) (why : ServeEnd) (old new : List ℕ) → talk ≡ self → GoesOn talk fed now at → IsOldest fed (Some this) →
    ((frames : List Frame) (answers : List Answer) → IsStageAfter frames answers now → fault ≡ take_fault.Refused → Refuses (frames ++ this ∷ [])) →
    why ≡ end_of_fault fault at → after ≡ ended_by talk why → new ≡ old → IsStep self after old new (Err why)
step_ended self talk after fed now at this fault why old new same goes oldest refused why_is talk_is silent = record {
  more = [];
  added = silent ∙ sym (append-nil old);
  told = ap (λ t. t.told) talk_is ∙ ap (λ t. t.told) same ∙ sym (append-nil self.told);
  bytes = ap (λ t. t.bytes) talk_is ∙ ap (λ t. t.bytes) same;
  says = (ap (λ t. t.end) talk_is, subst (λ t. Says t.bytes t.told (Err why)) (sym talk_is) (subst (λ w. Says talk.bytes talk.told (Err w)) (sym why_is) (by_fault fault refused)));
}
  where
    n : IsNext talk.bytes talk.told fed.took at now this
    n = next_of talk fed now at this goes oldest

    by_fault : (f : TakeFault) → ((frames : List Frame) (answers : List Answer) → IsStageAfter frames answers now → f ≡ take_fault.Refused → Refuses (frames ++ this ∷ [])) → Says talk.bytes talk.told (Err (end_of_fault f at))
    by_fault take_fault.Refused h = refused_next talk.bytes talk.told fed.took at now this n (h n.it.frames n.it.answers n.it.stage refl)
    by_fault take_fault.Memory h = partly talk.bytes talk.told fed.took at now n.it

-- ---- frame after frame

-- The frames so far were taken, and the session goes on.
pub record IsSteppedSoFar (old new : Talk) (before now : List ℕ) : Type 0 where
  pub more : List ℕ
  pub added : now ≡ before ++ more
  pub told : new.told ≡ old.told ++ more
  pub bytes : new.bytes ≡ old.bytes
  pub goes_on : new.end ≡ None

-- fewer frames are left
pub fewer : (old new : Talk) (before now : List ℕ) → IsStep old new before now (Ok true) → length new.bytes - new.took < length old.bytes - old.took
fewer old new before now step =
    let same : length new.bytes ≡ length old.bytes = ap length step.bytes in
    omega (arith, same, step.says.1, step.says.2)

-- ---- a piece

-- how far a session is that was fed a piece
pub goes_on_fed : (talk after : Talk) (fed fed' : Fed) (now : Stage) (at : ℕ) (piece : List ℕ) → GoesOn talk fed now at → fed' ≡ fed_bytes fed piece → after ≡ fed_more talk piece → GoesOn after fed' now at
goes_on_fed talk after fed fed' now at piece goes fed_is talk_is =
    let more : GoesOn (fed_more talk piece) (fed_bytes fed piece) now at = record {
      bytes = ap (λ bs. bs ++ piece) goes.bytes;
      took = goes.took;
      up_to = up_to_more talk.bytes piece talk.told talk.took at now goes.up_to;
    } in
    subst (λ f. GoesOn after f now at) (sym fed_is) (subst (λ t. GoesOn t (fed_bytes fed piece) now at) (sym talk_is) more)

-- a session that is fed a piece and then takes all frames, or ends
pub fed_all : (self fed after : Talk) (piece before now : List ℕ) (result : Result (Unit {0}) ServeEnd) → fed ≡ fed_more self piece → AreStepped fed after before now result → (result ≡ Ok tt → IsSound after.bytes) → IsFed self piece after before now result
fed_all self fed after piece before now result is steps sound = record {
  more = steps.more;
  added = steps.added;
  told = steps.told ∙ ap (λ t. t.told ++ steps.more) is;
  bytes = steps.bytes ∙ ap (λ t. t.bytes) is;
  end = by_end result steps.says;
  says = by_says result sound steps.says;
}
  where
    by_end : (r : Result (Unit {0}) ServeEnd) → AllSays after r → after.end ≡ end_of r
    by_end (Ok done) h = h.0
    by_end (Err why) h = h.0

    by_says : (r : Result (Unit {0}) ServeEnd) → (r ≡ Ok tt → IsSound after.bytes) → AllSays after r → Says after.bytes after.told r
    by_says (Ok done) whole h = taken_whole after.bytes after.told h.1.0 h.1.1 (whole refl)
    by_says (Err why) whole h = h.1

-- a session that is fed a piece that ends torn
pub fed_torn : (self fed steps_end after : Talk) (piece before now : List ℕ) (at : ℕ) → fed ≡ fed_more self piece → AreStepped fed steps_end before now (Ok tt) → IsTornAt steps_end.bytes at → after ≡ ended_by steps_end (end.Torn at) →
    IsFed self piece after before now (Err (end.Torn at))
fed_torn self fed steps_end after piece before now at is steps torn after_is = record {
  more = steps.more;
  added = steps.added;
  told = ap (λ t. t.told) after_is ∙ steps.told ∙ ap (λ t. t.told ++ steps.more) is;
  bytes = ap (λ t. t.bytes) after_is ∙ steps.bytes ∙ ap (λ t. t.bytes) is;
  end = ap (λ t. t.end) after_is;
  says = subst (λ t. IsTornAfter t.bytes t.told at) (sym after_is) (torn_after steps_end.bytes steps_end.told steps.says.1.0 at steps.says.1.1 torn);
}

-- a session for whose piece memory is wanting
pub fed_nothing : (self talk fed after : Talk) (decoder : Fed) (now : Stage) (at : ℕ) (piece out : List ℕ) → talk ≡ self → GoesOn talk decoder now at → fed ≡ fed_more talk piece → after ≡ ended_by fed end.Memory →
    IsFed self piece after out out (Err end.Memory)
fed_nothing self talk fed after decoder now at piece out same goes fed_is after_is = record {
  more = [];
  added = sym (append-nil out);
  told = ap (λ t. t.told) after_is ∙ ap (λ t. t.told) fed_is ∙ ap (λ t. t.told) same ∙ sym (append-nil self.told);
  bytes = ap (λ t. t.bytes) after_is ∙ ap (λ t. t.bytes) fed_is ∙ ap (λ t. t.bytes ++ piece) same;
  end = ap (λ t. t.end) after_is;
  says = subst (λ t. IsPartly t.bytes t.told) (sym after_is) (subst (λ t. IsPartly t.bytes t.told) (sym fed_is) (partly (talk.bytes ++ piece) talk.told talk.took at now (up_to_more talk.bytes piece talk.told talk.took at now goes.up_to)));
}

-- what the fields keep after a piece, where the decoder took it
pub keeps_fed : (talk after : Talk) (fed fed' : Fed) (now : Stage) (at : ℕ) (ended : Option ServeEnd) (piece : List ℕ) → KeepsTalk talk fed now at ended → ended ≡ None → fed' ≡ fed_bytes fed piece → after ≡ fed_more talk piece → KeepsTalk after fed' now at ended
keeps_fed talk after fed fed' now at ended piece keeps on fed_is talk_is = record {
  end = keeps.end ∙ sym (ap (λ t. t.end) talk_is);
  goes_on = λ _. goes_on_fed talk after fed fed' now at piece (keeps.goes_on (sym keeps.end ∙ on)) fed_is talk_is;
}

-- the bytes of the decoder are those of the session
pub same_bytes : (talk after : Talk) (fed fed' : Fed) (now : Stage) (at : ℕ) (ended : Option ServeEnd) (piece : List ℕ) → KeepsTalk talk fed now at ended → ended ≡ None → fed' ≡ fed_bytes fed piece → after ≡ fed_more talk piece → fed'.bytes ≡ after.bytes
same_bytes talk after fed fed' now at ended piece keeps on fed_is talk_is =
    let on_after : after.end ≡ None = ap (λ t. t.end) talk_is ∙ sym keeps.end ∙ on in
    let goes = (keeps_fed talk after fed fed' now at ended piece keeps on fed_is talk_is).goes_on on_after in
    goes.bytes
