-- An order as a worker is given it.
use Rattle.std.specs.Prelude.{ℕ}
use Rattle.px_base.specs.declared.wire.Order.{Order}
use Rattle.px_base.specs.declared.frame.Frame.TheVariants as frame
use Rattle.px_base.specs.FrameFits.{FrameFits}

-- an order, and the worker that it is for
pub record GivenState : Type 0 where
  pub worker : ℕ
  pub order : Order

-- It has a frame: its epoch and its round are within their limits, and its updates are at most 2^22 values, by rising vertex
-- below 2^22.
abbrev pub IsGiven : Order → Type 0
IsGiven order = FrameFits (frame.Order order)
