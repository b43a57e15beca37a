-- The facts on rounds of a system whose links tell their worlds and that runs with lag 0, and what follows from them.
use Rattle.std.specs.Prelude.{◌≡◌, ◌≢◌, ℕ, ◌+◌, ◌≤◌, true, length, Some, None}
use Rattle.hub_terms.specs.declared.stops.Why.TheVariants as why
use Rattle.px_base.specs.Worlds.{World}
use Rattle.hub_terms.specs.Hubs.{worker_at, order_at}
use Rattle.hub_terms.specs.Systems.{SystemState, world_at}
use Rattle.hub_terms.specs.InStep.{round_of}
use Rattle.round_laws.specs.Rounds.{IsLive, AllLive, AreInTime}
use Rattle.settling_laws.specs.Settling.{last_settling}
use Rattle.settling_laws.specs.SettledWorlds.{IsSettledAt, ReadsSettled}

-- as many rounds as suffice for a graph with so many vertices
abbrev pub rounds_enough : ℕ → ℕ
rounds_enough vertices = vertices + 8

-- The links tell their worlds, and the lag is 0: no worker begins a round before all live ones have ended the one before. Only of such
-- a state is it claimed how many rounds are needed.
pub record IsTimed (s : SystemState) : Type 0 where
  pub told : s.told ≡ true
  pub even : s.hub.members.limits.lag ≡ 0

-- as many rounds are allowed as suffice for the graph of the job
abbrev pub AllowsEnough : SystemState → Type 0
AllowsEnough s = rounds_enough (length s.job.rows) ≤ s.hub.members.limits.rounds

-- The facts that each event keeps of a timed state: those on rounds, and that the run isn't stopped for want of rounds where enough
-- are allowed.
pub record IsOnTime (s : SystemState) : Type 0 where
  pub facts : IsTimed s → AreInTime IsSettledAt ReadsSettled last_settling s
  pub budget : IsTimed s → AllowsEnough s → s.hub.halt ≢ Some why.Budget

-- Where all workers are live, each round is above the base by no more than suffice for the graph.
abbrev pub RoundsAreWithin : SystemState → Type 0
RoundsAreWithin s = AllLive s.hub → (i : ℕ) → IsLive s.hub i → (worker_at s.hub i).round ≤ s.hub.members.base + rounds_enough (length s.job.rows)

-- The rounds are spent, whatever lag is allowed: no order is under way, and each world has made its last Step in
-- the last round that was allowed.
pub record AreSpent (s : SystemState) : Type 0 where
  pub no_order : (i : ℕ) → order_at s.hub i ≡ None
  pub rounds : (i : ℕ) (w : World) → world_at s i ≡ Some w → round_of w + 1 ≡ s.hub.members.base + s.hub.members.limits.rounds

-- the run is stopped for want of rounds only where they were spent
abbrev pub StopsOnlySpent : SystemState → Type 0
StopsOnlySpent s = s.hub.halt ≡ Some why.Budget → AreSpent s
