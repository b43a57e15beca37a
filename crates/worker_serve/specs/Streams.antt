-- A session from a source to a sink.
use Rattle.std.specs.Prelude.{◌≡◌, ℕ, ◌^◌, ◌<◌, List, [], ◌++◌, length, Option, None, Result, Ok, Err}
use Rattle.std.specs.Io.KnownBytes.{Consumes, Appends, IsAtEnd}
use Rattle.px_base.specs.FrameFits.{IsTorn}
use Rattle.px_frames.specs.Decodings.{counted_bytes}
use Rattle.worker_serve.specs.declared.end.ServeEnd.{ServeEnd}
use Rattle.worker_serve.specs.declared.end.ServeEnd.TheVariants as end
use Rattle.worker_serve.specs.Talks.{Talk, TakesAll, IsTaken, IsTornAfter, IsRefusedAfter, IsPartly}

-- The input ended inside a frame, which begins after so many bytes.
pub record IsCutAfter (bytes told : List ℕ) (at : ℕ) : Type 0 where
  pub rest : List ℕ
  pub all : TakesAll bytes told rest
  pub some : rest ≡ [] → ⊥
  pub sound : IsTorn rest → ⊥
  pub place : at ≡ counted_bytes all.frames

-- Told are the first bytes of the answers to some of the first frames.
pub record IsFrontOfAnswers (bytes told : List ℕ) : Type 0 where
  pub more : List ℕ
  pub partly : IsPartly bytes (told ++ more)

-- so many bytes end a session
abbrev pub BYTES : ℕ
BYTES = 2 ^ 62

-- What an end says of the bytes that were taken from the source, of those that were written, and of what is left.
abbrev pub EndsAs : ServeEnd → List ℕ → List ℕ → Option (List ℕ) → Type 0
EndsAs end.End bytes told rest = TakesAll bytes told [] × IsAtEnd rest × (length bytes < BYTES)
EndsAs (end.Cut at) bytes told rest = IsCutAfter bytes told at × IsAtEnd rest × (length bytes < BYTES)
EndsAs (end.Torn at) bytes told rest = IsTornAfter bytes told at
EndsAs (end.Refused at) bytes told rest = IsRefusedAfter bytes told at
EndsAs end.TooLong bytes told rest = IsTaken bytes told × (BYTES ≡ length bytes)
EndsAs end.ReadFault bytes told rest = IsTaken bytes told × (length bytes < BYTES)
EndsAs end.WriteFault bytes told rest = IsFrontOfAnswers bytes told
EndsAs end.Memory bytes told rest = IsFrontOfAnswers bytes told

-- A session took these bytes from the source, and wrote those to the sink, where they tell.
pub record IsServed (left rest old new : Option (List ℕ)) (why : ServeEnd) : Type 0 where
  pub bytes : List ℕ
  pub taken : Consumes left rest bytes
  pub told : List ℕ
  pub written : Appends old new told
  pub ends : EndsAs why bytes told rest

-- ---- on the way

-- what is said of a piece that a session was fed and whose answers were written: the bytes now, and those told
abbrev pub PassSays : List ℕ → List ℕ → Talk → Result (Unit {0}) ServeEnd → Type 0
PassSays bytes told new (Ok done) = (new.bytes ≡ bytes) × (new.told ≡ told) × (new.end ≡ None) × IsTaken bytes told
PassSays bytes told new (Err (end.Torn at)) = IsTornAfter bytes told at
PassSays bytes told new (Err (end.Refused at)) = IsRefusedAfter bytes told at
PassSays bytes told new (Err end.WriteFault) = IsFrontOfAnswers bytes told
PassSays bytes told new (Err end.Memory) = IsFrontOfAnswers bytes told
PassSays bytes told new (Err _) = ⊥

-- A session was fed a piece, and what it answered was written.
pub record IsPassed (old : Talk) (piece : List ℕ) (new : Talk) (before now : Option (List ℕ)) (result : Result (Unit {0}) ServeEnd) : Type 0 where
  pub told : List ℕ
  pub written : Appends before now told
  pub says : PassSays (old.bytes ++ piece) (old.told ++ told) new result
