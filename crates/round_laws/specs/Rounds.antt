-- How far the rounds of live workers go, and what the workers know by then. Each fact has a name of its own.
use Rattle.std.specs.Prelude.{◌≡◌, ℕ, ◌+◌, ◌<◌, ◌≤◌, true, false, List, Some}
use Rattle.px_base.specs.declared.wire.Update.{Update}
use Rattle.px_base.specs.declared.wire.Order.{Order}
use Rattle.px_base.specs.declared.wire.Order.TheVariants.{Step}
use Rattle.px_base.specs.Worlds.{World}
use Rattle.hub_terms.specs.Jobs.{Job}
use Rattle.hub_terms.specs.Hubs.{HubState, worker_count, worker_at, order_at, has_mail}
use Rattle.hub_terms.specs.Systems.{SystemState, world_at}

-- worker i is live
abbrev pub IsLive : HubState → ℕ → Type 0
IsLive hub i = (worker_at hub i).live ≡ true

-- worker i has this Step to answer
abbrev pub HasStep : HubState → ℕ → ℕ → ℕ → List Update → Type 0
HasStep hub i epoch round updates = order_at hub i ≡ Some (Step epoch round updates)

-- ---- in every state

-- Live workers stand near to each other: their rounds differ by at most one more than the lag, and a Step under way, of any epoch,
-- has a round at most the lag above each live round.
pub record RoundsAreNear (hub : HubState) : Type 0 where
  pub near : (i j : ℕ) → IsLive hub i → IsLive hub j → (worker_at hub i).round ≤ (worker_at hub j).round + hub.members.limits.lag + 1
  pub pace : (i j epoch round : ℕ) (updates : List Update) → HasStep hub i epoch round updates → IsLive hub j → round ≤ (worker_at hub j).round + hub.members.limits.lag

-- ---- where all workers are live and the lag is 0

-- all workers are live
abbrev pub AllLive : HubState → Type 0
AllLive hub = (i : ℕ) → i < worker_count hub → IsLive hub i

-- A worker that is due stands at most one round above the base, and a Step of an older epoch isn't above it: since the last join such
-- a worker has answered one Step at most, of an older epoch.
pub record DueAreLow (hub : HubState) : Type 0 where
  pub due : (i : ℕ) → IsLive hub i → (worker_at hub i).due ≡ true → (worker_at hub i).round ≤ hub.members.base + 1
  pub older : (i epoch round : ℕ) (updates : List Update) → HasStep hub i epoch round updates → epoch < hub.members.epoch → round ≤ hub.members.base

-- What has settled by now. IsSettledAt job k w says of a world, and ReadsSettled job k w step of what a Step of it reads from others,
-- that all that settles in k rounds has settled. These rounds count from the second one above the base on: by then each worker has
-- answered a Step of this epoch.
pub record HaveSettled (IsSettledAt : Job → ℕ → World → Type 0) (ReadsSettled : Job → ℕ → World → Order → Type 0) (s : SystemState) : Type 0 where
  pub worlds : (i k : ℕ) (w : World) → world_at s i ≡ Some w → (worker_at s.hub i).due ≡ false → s.hub.members.base + 2 + k ≤ (worker_at s.hub i).round → IsSettledAt s.job k w
  pub steps : (i k epoch round : ℕ) (updates : List Update) (w : World) → world_at s i ≡ Some w → HasStep s.hub i epoch round updates → epoch ≡ s.hub.members.epoch →
      s.hub.members.base + 2 + k ≤ round → ReadsSettled s.job k w (Step epoch round updates)

-- How high a worker stands that changed something, that has mail, or at all, where nothing settles after the round last; and how high
-- it does while it has a Step to answer. Once all has settled nothing changes, and what was announced before is read in one round more.
pub record BusyAreWithin (last : ℕ) (hub : HubState) : Type 0 where
  pub changed : (i : ℕ) → IsLive hub i → (worker_at hub i).changed ≡ true → (worker_at hub i).round ≤ hub.members.base + last + 2
  pub mail : (i : ℕ) → IsLive hub i → has_mail hub i ≡ true → (worker_at hub i).round ≤ hub.members.base + last + 2
  pub mail_steps : (i epoch round : ℕ) (updates : List Update) → has_mail hub i ≡ true → HasStep hub i epoch round updates → round ≤ hub.members.base + last + 1
  pub rounds : (i : ℕ) → IsLive hub i → (worker_at hub i).round ≤ hub.members.base + last + 3
  pub steps : (i epoch round : ℕ) (updates : List Update) → HasStep hub i epoch round updates → round ≤ hub.members.base + last + 2

-- ---- all of them

-- The facts on rounds that every state keeps with lag 0, where last gives the last round of a job in which something settles.
pub record AreInTime (IsSettledAt : Job → ℕ → World → Type 0) (ReadsSettled : Job → ℕ → World → Order → Type 0) (last : Job → ℕ) (s : SystemState) : Type 0 where
  pub near : RoundsAreNear s.hub
  pub low : AllLive s.hub → DueAreLow s.hub
  pub settled : AllLive s.hub → HaveSettled IsSettledAt ReadsSettled s
  pub busy : AllLive s.hub → BusyAreWithin (last s.job) s.hub
