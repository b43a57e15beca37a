-- The bytes of a session: those that it is fed, and those that it answers.
use Rattle.std.specs.Prelude.{◌≡◌, ℕ, ◌+◌, All, List, [], ◌∷◌, ◌++◌, flat_map, Option, Some, None, Result, Ok, Err}
use Rattle.px_base.specs.declared.wire.Answer.{Answer}
use Rattle.px_base.specs.declared.frame.Frame.{Frame}
use Rattle.px_base.specs.declared.frame.Frame.TheVariants as frame
use Rattle.px_base.specs.Frames.{spelling}
use Rattle.px_base.specs.FrameFits.{FrameFits, AreFramesOf, IsTorn}
use Rattle.px_frames.specs.Decodings.{counted_bytes}
use Rattle.worker_serve.specs.declared.end.ServeEnd.{ServeEnd}
use Rattle.worker_serve.specs.declared.end.ServeEnd.TheVariants as end
use Rattle.worker_serve.specs.Sessions.{Takes, Refuses}

-- the bytes of the answers, one after another
abbrev pub answer_bytes : List Answer → List ℕ
answer_bytes answers = flat_map (λ a. spelling (frame.Answer a)) answers

-- The bytes begin with these frames, which a session takes, and told are the bytes of its answers to them.
pub record Begins (bytes : List ℕ) (frames : List Frame) (rest told : List ℕ) : Type 0 where
  pub fit : All FrameFits frames
  pub front : bytes ≡ flat_map spelling frames ++ rest
  pub answers : List Answer
  pub taken : Takes frames answers
  pub told_is : told ≡ answer_bytes answers

-- A session takes all frames of the bytes, and the rest begins with none.
pub record TakesAll (bytes told rest : List ℕ) : Type 0 where
  pub frames : List Frame
  pub begins : Begins bytes frames rest told
  pub all : AreFramesOf bytes frames rest

-- It takes them all, and what follows may be the front of a frame.
pub record IsTaken (bytes told : List ℕ) : Type 0 where
  pub rest : List ℕ
  pub all : TakesAll bytes told rest
  pub sound : IsTorn rest → ⊥

-- It takes them all, and what follows, after so many bytes, is torn.
pub record IsTornAfter (bytes told : List ℕ) (at : ℕ) : Type 0 where
  pub rest : List ℕ
  pub all : TakesAll bytes told rest
  pub torn : IsTorn rest
  pub place : at ≡ counted_bytes all.frames

-- After so many bytes, whose frames it takes, there stands a frame that it doesn't take.
pub record IsRefusedAfter (bytes told : List ℕ) (at : ℕ) : Type 0 where
  pub before : List Frame
  pub this : Frame
  pub more : List ℕ
  pub fits : FrameFits this
  pub begins : Begins bytes before (spelling this ++ more) told
  pub refused : Refuses (before ++ this ∷ [])
  pub place : at ≡ counted_bytes before

-- It takes some of the first frames.
pub record IsPartly (bytes told : List ℕ) : Type 0 where
  pub frames : List Frame
  pub rest : List ℕ
  pub begins : Begins bytes frames rest told

-- ---- a session that is fed

-- the bytes that it was fed, how many frames of them it took, the bytes that it answered, and why it ended, if it did
pub record Talk : Type 0 where
  pub bytes : List ℕ
  pub took : ℕ
  pub told : List ℕ
  pub end : Option ServeEnd

abbrev pub nothing_said : Talk
nothing_said = record { bytes = []; took = 0; told = []; end = None }

abbrev pub fed_more : Talk → List ℕ → Talk
fed_more talk piece = record talk { bytes = talk.bytes ++ piece }

-- one frame more was taken, and this was answered
abbrev pub took_one : Talk → List ℕ → Talk
took_one talk answer = record talk { took = talk.took + 1; told = talk.told ++ answer }

abbrev pub ended_by : Talk → ServeEnd → Talk
ended_by talk why = record talk { end = Some why }

-- what an answer to a piece says of all bytes so far
abbrev pub Says : List ℕ → List ℕ → Result (Unit {0}) ServeEnd → Type 0
Says bytes told (Ok done) = IsTaken bytes told
Says bytes told (Err (end.Torn at)) = IsTornAfter bytes told at
Says bytes told (Err (end.Refused at)) = IsRefusedAfter bytes told at
Says bytes told (Err end.Memory) = IsPartly bytes told
Says bytes told (Err _) = ⊥

-- why a session ends with this answer, if it does
abbrev pub end_of : Result (Unit {0}) ServeEnd → Option ServeEnd
end_of (Ok done) = None
end_of (Err why) = Some why

-- A session that goes on takes a piece, and what it answers to the frames that are whole now is added to the bytes that were
-- there before.
pub record IsFed (old : Talk) (piece : List ℕ) (new : Talk) (before now : List ℕ) (result : Result (Unit {0}) ServeEnd) : Type 0 where
  pub more : List ℕ
  pub added : now ≡ before ++ more
  pub told : new.told ≡ old.told ++ more
  pub bytes : new.bytes ≡ old.bytes ++ piece
  pub end : new.end ≡ end_of result
  pub says : Says new.bytes new.told result
