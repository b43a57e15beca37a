-- Which answers have a frame.
use Rattle.px_base.specs.declared.wire.Order.{Order}
use Rattle.px_base.specs.declared.wire.Answer.{Answer}
use Rattle.px_base.specs.declared.frame.Frame.TheVariants as frame
use Rattle.px_base.specs.FrameFits.{FrameFits}

-- Where the order has a frame, so has the answer.
pub record FitsWith (order : Order) (answer : Answer) : Type 0 where
  pub fits : FrameFits (frame.Order order) → FrameFits (frame.Answer answer)
