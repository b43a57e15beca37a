-- A session from a source to a sink, piece by piece.
use Rattle.std.proofs.Common.{◌≡◌, ℕ, ◌<◌, List, [], ◌++◌, length, length-append, take, drop, take-append-drop, refl, sym, ap, ◌∙◌, subst, inl, arith, append_assoc}
use Rattle.std.specs.Prelude.{Option, Some, None, Result, Ok, Err}
use Rattle.std.specs.Io.KnownBytes.{Consumes, Appends, IsAtEnd}
use Rattle.std.proofs.lemmas.List.{append-nil}
use Rattle.px_base.specs.declared.frame.Frame.{Frame}
use Rattle.px_base.specs.Frames.{spelling}
use Rattle.px_base.specs.FrameFits.{AreFramesOf}
use Rattle.px_io.proofs.Known.{appends_none, consumes_none}
use Rattle.px_io.specs.Causes.{AppendsPrefix}
use Rattle.worker_serve.specs.declared.end.ServeEnd.{ServeEnd}
use Rattle.worker_serve.specs.declared.end.ServeEnd.TheVariants as end
use Rattle.worker_serve.specs.Talks.{Talk, nothing_said, TakesAll, IsTaken, IsTornAfter, IsRefusedAfter, IsPartly, Says, end_of, IsFed}
use Rattle.worker_serve.specs.Stages.{IsEndAt}
use Rattle.worker_serve.specs.Streams.{BYTES, IsFrontOfAnswers, EndsAs, IsServed, PassSays, IsPassed}

-- ---- what is known of all answers

-- whatever is said, some first frames were taken, and told is what they were answered
pub says_partly : (bytes told : List ℕ) (r : Result (Unit {0}) ServeEnd) → Says bytes told r → IsPartly bytes told
says_partly bytes told (Ok done) h = record { frames = h.all.frames; rest = h.rest; begins = h.all.begins }
says_partly bytes told (Err (end.Torn at)) h = record { frames = h.all.frames; rest = h.rest; begins = h.all.begins }
says_partly bytes told (Err (end.Refused at)) h = record { frames = h.before; rest = _; begins = h.begins }
says_partly bytes told (Err end.Memory) h = h
says_partly bytes told (Err end.End) h = absurd h
says_partly bytes told (Err (end.Cut at)) h = absurd h
says_partly bytes told (Err end.TooLong) h = absurd h
says_partly bytes told (Err end.ReadFault) h = absurd h
says_partly bytes told (Err end.WriteFault) h = absurd h

front_of : (bytes told : List ℕ) → IsPartly bytes told → IsFrontOfAnswers bytes told
front_of bytes told partly = record { more = []; partly = subst (λ bs. IsPartly bytes bs) (sym (append-nil told)) partly }

-- ---- a piece

-- all that was answered is written
pub passed_all : (old new : Talk) (piece out : List ℕ) (before now : Option (List ℕ)) (r : Result (Unit {0}) ServeEnd) → IsFed old piece new [] out r → Appends before now out → IsPassed old piece new before now r
passed_all old new piece out before now r fed written = record {
  told = fed.more;
  written = subst (λ bs. Appends before now bs) fed.added written;
  says = by_case r fed.end (subst (λ bs. Says new.bytes bs r) fed.told fed.says);
}
  where
    by_case : (x : Result (Unit {0}) ServeEnd) → new.end ≡ end_of x → Says new.bytes (old.told ++ fed.more) x → PassSays (old.bytes ++ piece) (old.told ++ fed.more) new x
    by_case (Ok done) e h = (fed.bytes, fed.told, e, subst (λ bs. IsTaken bs (old.told ++ fed.more)) fed.bytes h)
    by_case (Err (end.Torn at)) e h = subst (λ bs. IsTornAfter bs (old.told ++ fed.more) at) fed.bytes h
    by_case (Err (end.Refused at)) e h = subst (λ bs. IsRefusedAfter bs (old.told ++ fed.more) at) fed.bytes h
    by_case (Err end.Memory) e h = front_of (old.bytes ++ piece) (old.told ++ fed.more) (subst (λ bs. IsPartly bs (old.told ++ fed.more)) fed.bytes h)
    by_case (Err end.End) e h = absurd h
    by_case (Err (end.Cut at)) e h = absurd h
    by_case (Err end.TooLong) e h = absurd h
    by_case (Err end.ReadFault) e h = absurd h
    by_case (Err end.WriteFault) e h = absurd h

-- the front of it is written
front_passed : (old new : Talk) (piece out : List ℕ) (count : ℕ) (r : Result (Unit {0}) ServeEnd) → IsFed old piece new [] out r → IsFrontOfAnswers (old.bytes ++ piece) (old.told ++ take count out)
front_passed old new piece out count r fed = record {
  more = drop count out;
  partly = subst (λ bs. IsPartly bs ((old.told ++ take count out) ++ drop count out)) fed.bytes
      (subst (λ bs. IsPartly new.bytes bs) (fed.told ∙ ap (λ bs. old.told ++ bs) (sym fed.added ∙ sym (take-append-drop count out)) ∙ sym (append_assoc old.told (take count out) (drop count out))) (says_partly new.bytes new.told r fed.says));
}

pub passed_front : (old new : Talk) (piece out : List ℕ) (before now : Option (List ℕ)) (r : Result (Unit {0}) ServeEnd) → IsFed old piece new [] out r → AppendsPrefix before now out → IsPassed old piece new before now (Err end.WriteFault)
passed_front old new piece out before now r fed written = record { told = take written.count out; written = written.appended; says = front_passed old new piece out written.count r fed }

pub passed_wanting : (old new : Talk) (piece out : List ℕ) (before now : Option (List ℕ)) (r : Result (Unit {0}) ServeEnd) → IsFed old piece new [] out r → AppendsPrefix before now out → IsPassed old piece new before now (Err end.Memory)
passed_wanting old new piece out before now r fed written = record { told = take written.count out; written = written.appended; says = front_passed old new piece out written.count r fed }

-- ---- from the source to the sink

-- A session went on so far: these are the bytes that it took, and all that it answered is written.
pub record IsServing (left rest old new : Option (List ℕ)) (talk : Talk) : Type 0 where
  pub taken : Consumes left rest talk.bytes
  pub written : Appends old new talk.told
  pub goes_on : talk.end ≡ None
  pub said : IsTaken talk.bytes talk.told

consumes_more : (left rest further : Option (List ℕ)) (xs ys : List ℕ) → Consumes left rest xs → Consumes rest further ys → Consumes left further (xs ++ ys)
consumes_more None rest further xs ys a b = tt
consumes_more (Some ls) None further xs ys a b = absurd a
consumes_more (Some ls) (Some rs) None xs ys a b = absurd b
consumes_more (Some ls) (Some rs) (Some fs) xs ys a b = a ∙ ap (λ bs. xs ++ bs) b ∙ sym (append_assoc xs ys fs)

appends_more : (old new further : Option (List ℕ)) (xs ys : List ℕ) → Appends old new xs → Appends new further ys → Appends old further (xs ++ ys)
appends_more None new further xs ys a b = tt
appends_more (Some os) None further xs ys a b = absurd a
appends_more (Some os) (Some ns) None xs ys a b = absurd b
appends_more (Some os) (Some ns) (Some fs) xs ys a b = b ∙ ap (λ bs. bs ++ ys) a ∙ append_assoc os xs ys

nothing_taken : IsPartly [] []
nothing_taken = record { frames = []; rest = []; begins = record { fit = λ k d below. absurd (omega (arith, below)); front = refl; answers = []; taken = inl (refl, refl); told_is = refl } }

-- memory was wanting at once
pub wants_at_once : (left old : Option (List ℕ)) → IsServed left left old old end.Memory
wants_at_once left old = record { bytes = []; taken = consumes_none left; told = []; written = appends_none old; ends = front_of [] [] nothing_taken }

-- a new session took nothing yet
none_short : (f : Frame) (more : List ℕ) → [] ≡ spelling f ++ more → ⊥
none_short f more e = let no_bytes : length (spelling f ++ more) ≡ 0 = ap length (sym e) in absurd (omega (arith, no_bytes, length-append (spelling f) more))

pub serving_nothing : (left old : Option (List ℕ)) (talk : Talk) → talk ≡ nothing_said → IsServing left left old old talk
serving_nothing left old talk is = subst (λ t. IsServing left left old old t) (sym is) (record {
  taken = consumes_none left;
  written = appends_none old;
  goes_on = refl;
  said = record {
    rest = [];
    all = record {
      frames = [];
      begins = record { fit = λ k d below. absurd (omega (arith, below)); front = refl; answers = []; taken = inl (refl, refl); told_is = refl };
      all = record { fit = λ k d below. absurd (omega (arith, below)); whole = refl; no_more = λ f more fits e. none_short f more e };
    };
    sound = λ torn. absurd (omega (arith, torn.0));
  };
})

-- a piece more
pub serving_more : (left rest further old between new : Option (List ℕ)) (talk after : Talk) (piece : List ℕ) → IsServing left rest old between talk → Consumes rest further piece → IsPassed talk piece after between new (Ok tt) → IsServing left further old new after
serving_more left rest further old between new talk after piece so_far taken passed = record {
  taken = subst (λ bs. Consumes left further bs) (sym passed.says.0) (consumes_more left rest further talk.bytes piece so_far.taken taken);
  written = subst (λ bs. Appends old new bs) (sym passed.says.1) (appends_more old between new talk.told passed.told so_far.written passed.written);
  goes_on = passed.says.2;
  said = subst (λ bs. IsTaken bs after.told) (sym passed.says.0) (subst (λ bs. IsTaken (talk.bytes ++ piece) bs) (sym passed.says.1) passed.says.3);
}

-- the end came with a piece
pub served_passed : (left rest further old between new : Option (List ℕ)) (talk after : Talk) (piece : List ℕ) (why : ServeEnd) → IsServing left rest old between talk → Consumes rest further piece → IsPassed talk piece after between new (Err why) → IsServed left further old new why
served_passed left rest further old between new talk after piece why so_far taken passed = record {
  bytes = talk.bytes ++ piece;
  taken = consumes_more left rest further talk.bytes piece so_far.taken taken;
  told = talk.told ++ passed.told;
  written = appends_more old between new talk.told passed.told so_far.written passed.written;
  ends = by_end why passed.says;
}
  where
    by_end : (w : ServeEnd) → PassSays (talk.bytes ++ piece) (talk.told ++ passed.told) after (Err w) → EndsAs w (talk.bytes ++ piece) (talk.told ++ passed.told) further
    by_end (end.Torn at) h = h
    by_end (end.Refused at) h = h
    by_end end.WriteFault h = h
    by_end end.Memory h = h
    by_end end.End h = absurd h
    by_end (end.Cut at) h = absurd h
    by_end end.TooLong h = absurd h
    by_end end.ReadFault h = absurd h

-- the input ended
pub served_whole : (left rest further old new : Option (List ℕ)) (talk : Talk) (why : ServeEnd) → IsServing left rest old new talk → Consumes rest further [] → IsAtEnd further → length talk.bytes < BYTES →
    ((frames : List Frame) (more : List ℕ) → AreFramesOf talk.bytes frames more → IsEndAt frames more why) → IsServed left further old new why
served_whole left rest further old new talk why so_far none at_end short ending = record {
  bytes = talk.bytes;
  taken = subst (λ bs. Consumes left further bs) (append-nil talk.bytes) (consumes_more left rest further talk.bytes [] so_far.taken none);
  told = talk.told;
  written = so_far.written;
  ends = by_end why (ending so_far.said.all.frames so_far.said.rest so_far.said.all.all);
}
  where
    by_end : (w : ServeEnd) → IsEndAt so_far.said.all.frames so_far.said.rest w → EndsAs w talk.bytes talk.told further
    by_end end.End h = (subst (λ r. TakesAll talk.bytes talk.told r) h so_far.said.all, at_end, short)
    by_end (end.Cut at) h = (record { rest = so_far.said.rest; all = so_far.said.all; some = h.0; sound = so_far.said.sound; place = h.1 }, at_end, short)
    by_end (end.Torn at) h = absurd h
    by_end (end.Refused at) h = absurd h
    by_end end.TooLong h = absurd h
    by_end end.ReadFault h = absurd h
    by_end end.WriteFault h = absurd h
    by_end end.Memory h = absurd h
