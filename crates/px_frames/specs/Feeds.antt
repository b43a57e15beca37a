-- What a decoder says of a piece.
use Rattle.std.specs.Prelude.{◌≡◌, ℕ, List}
use Rattle.px_frames.specs.declared.decoder.FeedFault.{FeedFault}
use Rattle.px_frames.specs.declared.decoder.FeedFault.TheVariants as fault
use Rattle.px_frames.specs.Decodings.{Fed, fed_more, IsSound, IsTornAt}

-- The piece was taken, and what follows the frames isn't torn.
pub record Takes (old : Fed) (piece : List ℕ) (new : Fed) : Type 0 where
  pub now : new ≡ fed_more old piece
  pub sound : IsSound new.bytes

-- The piece was taken, and what follows the frames is torn.
pub record TakesTorn (old : Fed) (piece : List ℕ) (new : Fed) (at : ℕ) : Type 0 where
  pub now : new ≡ fed_more old piece
  pub torn : IsTornAt new.bytes at

-- Torn bytes are taken all the same. Without memory nothing is.
abbrev pub Refuses : Fed → List ℕ → Fed → FeedFault → Type 0
Refuses old piece new (fault.Torn at) = TakesTorn old piece new at
Refuses old piece new fault.Memory = new ≡ old
