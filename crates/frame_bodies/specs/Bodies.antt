-- The frame that a kind and a body are of.
use Rattle.std.specs.Prelude.{◌≡◌, ℕ, List, Option, Some, None}
use Rattle.px_base.specs.declared.frame.Frame.{Frame as FrameData}
use Rattle.px_base.specs.Frames.{kind_of, body_of}
use Rattle.px_base.specs.FrameFits.{FrameFits}
use Rattle.frame_bodies.specs.Widths.{HasRoom}

-- the frame of this kind and this body, within the limits or not
abbrev pub IsCandidate : ℕ → List ℕ → Option FrameData → Type 0
IsCandidate kind body None = (f : FrameData) → HasRoom f → kind_of f ≡ kind → body_of f ≡ body → ⊥
IsCandidate kind body (Some f) = HasRoom f × (kind_of f ≡ kind) × (body_of f ≡ body)

-- the frame of this kind and this body that fits
abbrev pub IsBody : ℕ → List ℕ → Option FrameData → Type 0
IsBody kind body None = (f : FrameData) → FrameFits f → kind_of f ≡ kind → body_of f ≡ body → ⊥
IsBody kind body (Some f) = FrameFits f × (kind_of f ≡ kind) × (body_of f ≡ body)
