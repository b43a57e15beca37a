-- What a link to a world in memory is asked by hand, one order after another.
use Rattle.std.specs.Prelude.{◌≡◌, ℕ, true, List, [], ◌∷◌, Option, Some}
use Rattle.px_base.specs.declared.graph.Read.{Read}
use Rattle.px_base.specs.declared.wire.Order.{Order}
use Rattle.px_base.specs.declared.wire.Order.TheVariants.{Step, Report}
use Rattle.px_base.specs.Worlds.{World, epoch_of}
use Rattle.link_trait.specs.Links.{LinkView}

-- the first Step of a run
abbrev pub first_step : Order
first_step = Step 1 0 []

-- a Report of the first epoch
abbrev pub first_report : Order
first_report = Report 1

-- the world is of this epoch, where it is told
abbrev pub IsAtEpoch : ℕ → Option World → Type 0
IsAtEpoch epoch peer = (w : World) → peer ≡ Some w → epoch_of w ≡ epoch

-- the link is alive, and its world is of this epoch
pub record IsReady (epoch : ℕ) (link : LinkView) : Type 0 where
  pub alive : link.alive ≡ true
  pub at : IsAtEpoch epoch link.peer

-- the rows of two vertices, of which the second reads the first, from this position on
abbrev pub small_rows : ℕ → List (List Read)
small_rows low = [] ∷ (record { source = low; weight = 1 } ∷ []) ∷ []
