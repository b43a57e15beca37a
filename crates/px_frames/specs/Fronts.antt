-- What stands at the front of some bytes.
use Rattle.std.specs.Prelude.{◌≡◌, ℕ, ◌≤◌, List, length, take}
use Rattle.px_base.specs.declared.frame.Frame.{Frame as FrameData}
use Rattle.px_base.specs.Frames.{spelling}
use Rattle.px_base.specs.FrameFits.{FrameFits, IsTorn}
use Rattle.px_frames.specs.declared.front.Front.{Front}
use Rattle.px_frames.specs.declared.front.Front.TheVariants as front
use Rattle.px_frames.specs.Decodings.{IsShort}

-- a frame whose spelling is so long stands at the front
pub record IsWhole (bytes : List ℕ) (f : FrameData) (len : ℕ) : Type 0 where
  pub fits : FrameFits f
  pub long : 8 ≤ len
  pub within : len ≤ length bytes
  pub spells : take len bytes ≡ spelling f

abbrev pub IsFront : List ℕ → Front → Type 0
IsFront bytes (front.Whole f len) = IsWhole bytes f len
IsFront bytes front.Short = IsShort bytes
IsFront bytes front.Torn = IsTorn bytes
