-- A Step of a worker in a round.
use Rattle.std.specs.Prelude.{◌≡◌, ℕ, List, Ok, IsOk}
use Rattle.px_base.specs.declared.wire.Update.{Update}
use Rattle.px_base.specs.declared.wire.Order.TheVariants.{Step}
use Rattle.px_base.specs.declared.wire.Answer.TheVariants.{Stepped}
use Rattle.px_base.specs.Worlds.{World, CarriesValues}
use Rattle.px_base.specs.WorldSteps.{world_step}
use Rattle.serial_rounds.specs.declared.steps.Sent.{Sent}

-- the world doesn't refuse the Step of this round that carries the updates
pub record Accepts (round : ℕ) (world : World) (updates : List Update) : Type 0 where
  pub accepted : IsOk (world_step world (Step 1 round updates))
  pub values : CarriesValues updates

-- what the Step of this round that carries the updates makes of the world, and answers
pub record IsStepped (round : ℕ) (before : World) (updates : List Update) (after : World) (sent : Sent) : Type 0 where
  pub step : world_step before (Step 1 round updates) ≡ Ok (record { world = after; answer = Stepped 1 round sent.changed sent.updates })
