-- What the calls of a system promise of its state, beyond the facts that every state keeps.
use Rattle.std.specs.Prelude.{◌≡◌, ◌≢◌, ℕ, true, Some, MatchOption}
use Rattle.recovery.specs.Givens.{GivenState}
use Rattle.hub_terms.specs.Hubs.{all_reported, is_quiet_hub, order_at, reported_values}
use Rattle.hub_terms.specs.InStep.{IsAccepted}
use Rattle.hub_terms.specs.Seats.{seat_part}
use Rattle.hub_terms.specs.Systems.{SystemState, world_at}
use Rattle.hub_terms.specs.Valid.{IsCoreAnswer}

-- All is done: all is quiet, each worker has reported, and where the links tell their peers, the reports are the core answer
-- of the job.
pub record IsDone (s : SystemState) : Type 0 where
  pub quiet : is_quiet_hub s.hub ≡ true
  pub reported : all_reported s.hub ≡ true
  pub answer : s.told ≡ true → IsCoreAnswer s.job (reported_values s.hub)

-- Worker i has been given this order, which stays with it until it is answered or the worker is lost. Where the links tell
-- their peers, its world doesn't refuse it.
pub record IsHandedOut (s : SystemState) (i : ℕ) (given : GivenState) : Type 0 where
  pub worker : given.worker ≡ i
  pub order : order_at s.hub i ≡ Some given.order
  pub accepted : s.told ≡ true → MatchOption (world_at s i) ⊥ (λ w. IsAccepted w given.order)

-- no other worker's part has changed
abbrev pub OthersStay : ℕ → SystemState → SystemState → Type 0
OthersStay i old new = (j : ℕ) → i ≢ j → seat_part new j ≡ seat_part old j
