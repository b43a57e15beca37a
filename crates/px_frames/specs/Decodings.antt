-- What a decoder was fed, and what it answers.
use Rattle.std.specs.Prelude.{◌≡◌, ℕ, ◌+◌, ◌^◌, ◌<◌, ◌≤◌, min, Bool, true, false, ◌⊎◌, List, [], ◌++◌, length, take, drop, flat_map, slice_get, All, Option}
use Rattle.px_base.specs.declared.frame.Frame.{Frame}
use Rattle.px_base.specs.Frames.{spelling}
use Rattle.px_base.specs.FrameFits.{FrameFits, AreFramesOf, IsTorn, is_right_header, word_at}

-- the bytes that were fed so far, in whatever pieces, and how many of their frames were taken
pub record Fed : Type 0 where
  pub bytes : List ℕ
  pub took : ℕ

abbrev pub nothing_fed : Fed
nothing_fed = record { bytes = []; took = 0 }

abbrev pub fed_more : Fed → List ℕ → Fed
fed_more fed piece = record { bytes = fed.bytes ++ piece; took = fed.took }

abbrev pub took_more : Fed → Fed
took_more fed = record { bytes = fed.bytes; took = fed.took + 1 }

-- the frames at the front of the bytes, and what follows them
pub record Reading (bytes : List ℕ) : Type 0 where
  pub frames : List Frame
  pub rest : List ℕ
  pub are : AreFramesOf bytes frames rest

-- how many bytes the frames have, counted up to 2 ^ 62
abbrev pub counted_bytes : List Frame → ℕ
counted_bytes frames = min (length (flat_map spelling frames)) (2 ^ 62)

-- What follows the frames isn't torn.
pub record IsSound (bytes : List ℕ) : Type 0 where
  pub reading : Reading bytes
  pub sound : IsTorn reading.rest → ⊥

-- What follows the frames is torn, and so many bytes stand before it.
pub record IsTornAt (bytes : List ℕ) (at : ℕ) : Type 0 where
  pub reading : Reading bytes
  pub torn : IsTorn reading.rest
  pub place : at ≡ counted_bytes reading.frames

-- The frame is the oldest that wasn't taken yet, or none where all were taken.
pub record IsOldest (fed : Fed) (answer : Option Frame) : Type 0 where
  pub reading : Reading fed.bytes
  pub is : answer ≡ slice_get reading.frames fed.took

-- The number is that of the bytes in whole frames.
pub record IsCount (bytes : List ℕ) (count : ℕ) : Type 0 where
  pub reading : Reading bytes
  pub is : count ≡ counted_bytes reading.frames

-- the bytes begin a frame, and aren't a whole one yet
abbrev pub IsShort : List ℕ → Type 0
IsShort bytes = (length bytes < 8) ⊎ ((is_right_header bytes ≡ true) × (length bytes < 8 + word_at bytes 4))

-- What a decoder keeps of what it was fed: the bytes after the frames, the frames that weren't taken, the number of bytes
-- before that rest, and whether it is torn. Of a torn rest the bytes needn't be kept.
pub record Keeps (fed : Fed) (pending : List ℕ) (waiting : List Frame) (whole : ℕ) (torn : Bool) : Type 0 where
  pub taken : List Frame
  pub rest : List ℕ
  pub took : fed.took ≡ length taken
  pub are : AreFramesOf fed.bytes (taken ++ waiting) rest
  pub count : whole ≡ counted_bytes (taken ++ waiting)
  pub sound : torn ≡ false → (rest ≡ pending) × (IsTorn rest → ⊥)
  pub broken : torn ≡ true → IsTorn rest

-- What a decoder holds of what it was fed: what it keeps, and no bytes once they are torn.
pub record Holds (fed : Fed) (pending : List ℕ) (waiting : List Frame) (whole : ℕ) (torn : Bool) : Type 0 where
  pub keeps : Keeps fed pending waiting whole torn
  pub none : torn ≡ true → pending ≡ []

-- The frames at the front of the bytes, up to this place, were added.
pub record ScansTo (bytes : List ℕ) (old new : List Frame) (at : ℕ) : Type 0 where
  pub frames : List Frame
  pub added : new ≡ old ++ frames
  pub fit : All FrameFits frames
  pub within : at ≤ length bytes
  pub front : take at bytes ≡ flat_map spelling frames

-- They were, and what follows them is torn, or is no whole frame.
pub record Scans (bytes : List ℕ) (old new : List Frame) (at : ℕ) (torn : Bool) : Type 0 where
  pub to : ScansTo bytes old new at
  pub broken : torn ≡ true → IsTorn (drop at bytes)
  pub short : torn ≡ false → IsShort (drop at bytes)
