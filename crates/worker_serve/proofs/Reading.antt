-- The frames of the bytes of a session, one by one.
use Rattle.std.proofs.Common.{◌≡◌, ℕ, ◌+◌, ◌^◌, ◌≤◌, min, List, [], ◌∷◌, ◌++◌, length, length-append, drop, refl, sym, ap, ◌∙◌, subst, inl, inr, arith, append_assoc}
use Rattle.std.specs.Prelude.{All, flat_map, slice_get, Some, None}
use Rattle.std.proofs.lemmas.List.{append-nil, drop_at}
use Rattle.std.proofs.Math.Seq.{get_or-append_seam}
use Rattle.std.proofs.lemmas.List.Elements.{All-push, All-get_or}
use Rattle.px_base.specs.declared.wire.Answer.{Answer}
use Rattle.px_base.specs.declared.frame.Frame.{Frame}
use Rattle.px_base.specs.declared.frame.Frame.TheVariants as frame
use Rattle.px_base.specs.Frames.{spelling}
use Rattle.px_base.specs.FrameFits.{FrameFits, AreFramesOf, IsTorn}
use Rattle.px_frames.specs.Decodings.{Fed, counted_bytes, IsOldest, IsSound, IsTornAt, IsCount}
use Rattle.px_frames.proofs.Apart.{one_reading, longest}
use Rattle.worker_serve.specs.declared.stage.Stage.{Stage}
use Rattle.worker_serve.specs.declared.stage.Stage.TheVariants as stage
use Rattle.worker_serve.specs.Sessions.{Takes, Refuses}
use Rattle.worker_serve.specs.Talks.{Begins, TakesAll, IsTaken, IsTornAfter, IsRefusedAfter, IsPartly, answer_bytes}
use Rattle.worker_serve.specs.Stages.{IsStageAfter, IsStageNext, IsUpTo}

-- ---- stages

-- what led to a stage is what a session takes
pub stage_takes : (frames : List Frame) (answers : List Answer) (now : Stage) → IsStageAfter frames answers now → Takes frames answers
stage_takes frames answers stage.Waiting is = inl is
stage_takes frames answers (stage.Loading load) is = inr (inl (load, is.0, is.1))
stage_takes frames answers (stage.Serving world) is = inr (inr (is.0, is.1, record { world = world; answers = answers }, is.2, refl))

begins : (bytes told : List ℕ) (took at : ℕ) (now : Stage) (it : IsUpTo bytes told took at now) → Begins bytes it.frames it.rest told
begins bytes told took at now it = record {
  fit = it.fit;
  front = it.front;
  answers = it.answers;
  taken = stage_takes it.frames it.answers now it.stage;
  told_is = it.told_is;
}

-- more bytes change nothing of what was taken
pub up_to_more : (bytes piece told : List ℕ) (took at : ℕ) (now : Stage) → IsUpTo bytes told took at now → IsUpTo (bytes ++ piece) told took at now
up_to_more bytes piece told took at now it = record {
  frames = it.frames;
  rest = it.rest ++ piece;
  fit = it.fit;
  front = ap (λ bs. bs ++ piece) it.front ∙ append_assoc (flat_map spelling it.frames) it.rest piece;
  count = it.count;
  place = it.place;
  answers = it.answers;
  told_is = it.told_is;
  stage = it.stage;
}

pub partly : (bytes told : List ℕ) (took at : ℕ) (now : Stage) → IsUpTo bytes told took at now → IsPartly bytes told
partly bytes told took at now it = record { frames = it.frames; rest = it.rest; begins = begins bytes told took at now it }

-- ---- lists of frames

pub spellings_more : (fs gs : List Frame) → flat_map spelling (fs ++ gs) ≡ flat_map spelling fs ++ flat_map spelling gs
spellings_more [] gs = refl
spellings_more (f ∷ fs) gs = ap (λ bs. spelling f ++ bs) (spellings_more fs gs) ∙ sym (append_assoc (spelling f) (flat_map spelling fs) (flat_map spelling gs))

answers_more : (xs ys : List Answer) → answer_bytes (xs ++ ys) ≡ answer_bytes xs ++ answer_bytes ys
answers_more [] ys = refl
answers_more (x ∷ xs) ys = ap (λ bs. spelling (frame.Answer x) ++ bs) (answers_more xs ys) ∙ sym (append_assoc (spelling (frame.Answer x)) (answer_bytes xs) (answer_bytes ys))

-- each frame has 8 bytes and more
frames_short : (fs : List Frame) → length fs ≤ length (flat_map spelling fs)
frames_short [] = omega arith
frames_short (f ∷ fs) = omega (arith, frames_short fs, length-append (spelling f) (flat_map spelling fs))

-- the place after one frame more
place_more : (fs : List Frame) (f : Frame) → counted_bytes (fs ++ f ∷ []) ≡ min (counted_bytes fs + length (spelling f)) (2 ^ 62)
place_more fs f =
    let all : length (flat_map spelling (fs ++ f ∷ [])) ≡ length (flat_map spelling fs) + length (spelling f) =
    ap length (spellings_more fs (f ∷ []) ∙ ap (λ xs. flat_map spelling fs ++ xs) (append-nil (spelling f))) ∙ length-append (flat_map spelling fs) (spelling f) in
    omega (arith, all)

at_length : (before others : List Frame) → slice_get (before ++ others) (length before) ≡ slice_get others 0
at_length [] others = refl
at_length (f ∷ before) others = at_length before others

-- ---- the next frame

-- The frame that stands after those that were taken.
pub record IsNext (bytes told : List ℕ) (took at : ℕ) (now : Stage) (this : Frame) : Type 0 where
  pub it : IsUpTo bytes told took at now
  pub rest : List ℕ
  pub fits : FrameFits this
  pub front : bytes ≡ flat_map spelling it.frames ++ (spelling this ++ rest)

pub next_frame : (fed : Fed) (bytes told : List ℕ) (at : ℕ) (now : Stage) (this : Frame) → fed.bytes ≡ bytes → IsUpTo bytes told fed.took at now → IsOldest fed (Some this) → IsNext bytes told fed.took at now this
next_frame fed bytes told at now this same it oldest =
    let longer = longest fed.bytes oldest.reading.rest it.rest oldest.reading.frames it.frames oldest.reading.are it.fit (same ∙ it.front) in
    by_others longer.0 longer.1
  where
    by_others : (others : List Frame) → oldest.reading.frames ≡ it.frames ++ others → IsNext bytes told fed.took at now this
    by_others [] all = absurd (let none : slice_get (it.frames ++ []) fed.took ≡ None = rw it.count (at_length it.frames []) in let some : Some this ≡ slice_get (it.frames ++ []) fed.took = rw (← all) oldest.is in cc)
    by_others (f ∷ others) all =
        let there : slice_get oldest.reading.frames fed.took ≡ Some f = rw all (rw it.count (at_length it.frames (f ∷ others))) in
        let same_frame : f ≡ this = (let some : Some this ≡ slice_get oldest.reading.frames fed.took = oldest.is in cc) in
        let bytes_are : bytes ≡ flat_map spelling (it.frames ++ f ∷ others) ++ oldest.reading.rest = sym same ∙ oldest.reading.are.whole ∙ ap (λ fs. flat_map spelling fs ++ oldest.reading.rest) all in
        record {
          it = it;
          rest = flat_map spelling others ++ oldest.reading.rest;
          fits = subst FrameFits same_frame (subst FrameFits (get_or-append_seam it.frames f others f) (All-get_or FrameFits (it.frames ++ f ∷ others) (length it.frames) f (omega (arith, length-append it.frames (f ∷ others))) (subst (λ fs. All FrameFits fs) all oldest.reading.are.fit)));
          front = bytes_are ∙ ap (λ bs. bs ++ oldest.reading.rest) (spellings_more it.frames (f ∷ others)) ∙ append_assoc (flat_map spelling it.frames) (spelling f ++ flat_map spelling others) oldest.reading.rest
              ∙ ap (λ bs. flat_map spelling it.frames ++ bs) (append_assoc (spelling f) (flat_map spelling others) oldest.reading.rest)
              ∙ ap (λ g. flat_map spelling it.frames ++ (spelling g ++ (flat_map spelling others ++ oldest.reading.rest))) same_frame;
        }

-- what is added behind some bytes
pub added_behind : (old new more : List ℕ) → new ≡ old ++ more → drop (length old) new ≡ more
added_behind old new more e = ap (λ xs. drop (length old) xs) e ∙ drop_at old more (length old) refl

-- the next frame leads to another stage
pub up_to_next : (bytes told : List ℕ) (took at : ℕ) (now next : Stage) (this : Frame) (n : IsNext bytes told took at now this) (old new : List ℕ) →
    IsStageNext n.it.frames n.it.answers this old new next → IsUpTo bytes (told ++ drop (length old) new) (took + 1) (min (at + length (spelling this)) (2 ^ 62)) next
up_to_next bytes told took at now next this n old new to = record {
  frames = n.it.frames ++ this ∷ [];
  rest = n.rest;
  fit = All-push FrameFits n.it.frames this n.it.fit n.fits;
  front = n.front ∙ sym (append_assoc (flat_map spelling n.it.frames) (spelling this) n.rest) ∙ ap (λ bs. bs ++ n.rest) (sym (spellings_more n.it.frames (this ∷ []) ∙ ap (λ bs. flat_map spelling n.it.frames ++ bs) (append-nil (spelling this))));
  count = (let one : length (n.it.frames ++ this ∷ []) ≡ length n.it.frames + 1 = length-append n.it.frames (this ∷ []) in ap (λ k. k + 1) n.it.count ∙ sym one);
  place = ap (λ k. min (k + length (spelling this)) (2 ^ 62)) n.it.place ∙ sym (place_more n.it.frames this);
  answers = n.it.answers ++ to.more;
  told_is = ap (λ bs. told ++ bs) (added_behind old new (answer_bytes to.more) to.added) ∙ ap (λ bs. bs ++ answer_bytes to.more) n.it.told_is ∙ sym (answers_more n.it.answers to.more);
  stage = to.stage;
}

-- there are fewer frames than bytes
pub took_short : (bytes told : List ℕ) (took at : ℕ) (now : Stage) → IsUpTo bytes told took at now → took ≤ length bytes
took_short bytes told took at now it =
    let all : length bytes ≡ length (flat_map spelling it.frames) + length it.rest = ap length it.front ∙ length-append (flat_map spelling it.frames) it.rest in
    omega (arith, it.count, all, frames_short it.frames)

-- the next frame isn't taken
pub refused_next : (bytes told : List ℕ) (took at : ℕ) (now : Stage) (this : Frame) (n : IsNext bytes told took at now this) → Refuses (n.it.frames ++ this ∷ []) → IsRefusedAfter bytes told at
refused_next bytes told took at now this n refused = record {
  before = n.it.frames;
  this = this;
  more = n.rest;
  fits = n.fits;
  begins = record { fit = n.it.fit; front = n.front; answers = n.it.answers; taken = stage_takes n.it.frames n.it.answers now n.it.stage; told_is = n.it.told_is };
  refused = refused;
  place = n.it.place;
}

-- ---- no frame is left

pub all_taken : (fed : Fed) (bytes told : List ℕ) (at : ℕ) (now : Stage) → fed.bytes ≡ bytes → IsUpTo bytes told fed.took at now → IsOldest fed None → (rest : List ℕ) × TakesAll bytes told rest
all_taken fed bytes told at now same it oldest =
    let longer = longest fed.bytes oldest.reading.rest it.rest oldest.reading.frames it.frames oldest.reading.are it.fit (same ∙ it.front) in
    by_others longer.0 longer.1
  where
    by_others : (others : List Frame) → oldest.reading.frames ≡ it.frames ++ others → (rest : List ℕ) × TakesAll bytes told rest
    by_others [] all =
        let frames_are : oldest.reading.frames ≡ it.frames = all ∙ append-nil it.frames in
        let are : AreFramesOf bytes it.frames oldest.reading.rest = subst (λ fs. AreFramesOf bytes fs oldest.reading.rest) frames_are (subst (λ bs. AreFramesOf bs oldest.reading.frames oldest.reading.rest) same oldest.reading.are) in (
          oldest.reading.rest,
          record {
            frames = it.frames;
            begins = record { fit = it.fit; front = are.whole; answers = it.answers; taken = stage_takes it.frames it.answers now it.stage; told_is = it.told_is };
            all = are;
          },
        )
    by_others (f ∷ others) all =
        absurd (let there : slice_get oldest.reading.frames fed.took ≡ Some f = rw all (rw it.count (at_length it.frames (f ∷ others))) in
        let none : None ≡ slice_get oldest.reading.frames fed.took = oldest.is in cc)

pub taken_whole : (bytes told rest : List ℕ) → TakesAll bytes told rest → IsSound bytes → IsTaken bytes told
taken_whole bytes told rest all sound =
    let same = one_reading bytes rest sound.reading.rest all.frames sound.reading.frames all.all sound.reading.are in
    record { rest = rest; all = all; sound = subst (λ r. IsTorn r → ⊥) (sym same.1) sound.sound }

pub torn_after : (bytes told rest : List ℕ) (at : ℕ) → TakesAll bytes told rest → IsTornAt bytes at → IsTornAfter bytes told at
torn_after bytes told rest at all torn =
    let same = one_reading bytes rest torn.reading.rest all.frames torn.reading.frames all.all torn.reading.are in
    record { rest = rest; all = all; torn = subst IsTorn (sym same.1) torn.torn; place = torn.place ∙ ap counted_bytes (sym same.0) }

-- ---- the end of the input

pub ends_between : (bytes : List ℕ) (frames : List Frame) (rest : List ℕ) → AreFramesOf bytes frames rest → (all : List Frame) × AreFramesOf bytes all [] → rest ≡ []
ends_between bytes frames rest are whole = (one_reading bytes rest [] frames whole.0 are whole.1).1

pub ends_inside : (bytes : List ℕ) (frames : List Frame) (rest : List ℕ) (at : ℕ) → AreFramesOf bytes frames rest → ((all : List Frame) × AreFramesOf bytes all [] → ⊥) → IsCount bytes at → (rest ≡ [] → ⊥) × (at ≡ counted_bytes frames)
ends_inside bytes frames rest at are never count =
    let same = one_reading bytes rest count.reading.rest frames count.reading.frames are count.reading.are in
    (λ none. never (frames, subst (λ r. AreFramesOf bytes frames r) none are), count.is ∙ ap counted_bytes (sym same.0))
