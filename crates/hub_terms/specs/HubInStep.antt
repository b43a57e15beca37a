-- The book-keeping of the hub alone, which it keeps whatever its workers answer. Each fact has a name of its own.
use Rattle.std.specs.Prelude.{◌≡◌, ℕ, ◌+◌, ◌-◌, ◌*◌, ◌<◌, ◌≤◌, ◌↔◌, true, false, List, length, map, All, Some, None, IsTrue, ⊤}
use Rattle.std.specs.List.Sorted.{IsStrictlyIncreasing}
use Rattle.px_base.specs.declared.wire.Update.{Update}
use Rattle.px_base.specs.declared.wire.Order.{Order}
use Rattle.px_base.specs.declared.wire.Order.TheVariants.{Step, Report}
use Rattle.px_base.specs.Parts.{part_count}
use Rattle.px_base.specs.Values.{IsValue}
use Rattle.px_base.specs.Worlds.{updates_in, CarriesValues}
use Rattle.hub_terms.specs.declared.stops.Why.TheVariants as why
use Rattle.hub_terms.specs.Jobs.{LimitsFit}
use Rattle.hub_terms.specs.declared.workers.MemberState.{MemberState}
use Rattle.hub_terms.specs.Members.{MembersState, live_count, member_at}
use Rattle.hub_terms.specs.Inboxes.{InboxesState, inbox_at, is_addressed}
use Rattle.hub_terms.specs.Hubs.{HubState, worker_at, order_at, reported_at, is_quiet_hub}
use Rattle.hub_terms.specs.UnderWay.{order_epoch, task_of}

-- ---- places

-- there is one place for each worker in each list
pub record HasPlaces (hub : HubState) : Type 0 where
  pub members : length hub.members.members ≡ part_count hub.inboxes.cuts
  pub boxes : length hub.inboxes.boxes ≡ part_count hub.inboxes.cuts
  pub orders : length hub.orders ≡ part_count hub.inboxes.cuts
  pub reported : length hub.reported ≡ part_count hub.inboxes.cuts

-- ---- inboxes

-- the update may stand in the inbox of worker j
abbrev pub IsAddressedTo : InboxesState → ℕ → Update → Type 0
IsAddressedTo t j u = IsTrue (is_addressed t j u.vertex)

-- a list of updates for worker j: each goes to it, the vertices rise, and the values are such
pub record IsMailOf (t : InboxesState) (j : ℕ) (updates : List Update) : Type 0 where
  pub addressed : All (IsAddressedTo t j) updates
  pub rising : IsStrictlyIncreasing (map (λ u. u.vertex) updates)
  pub values : CarriesValues updates

-- each inbox is such a list for its worker
abbrev pub InboxesFit : InboxesState → Type 0
InboxesFit t = (j : ℕ) → IsMailOf t j (inbox_at t j)

-- ---- orders

-- a Step has the round of its worker
abbrev pub StandsAt : MemberState → Order → Type 0
StandsAt w (Step epoch round updates) = round ≡ w.round
StandsAt w (Report epoch) = ⊤

-- what holds of the order that worker i hasn't answered yet
pub record IsOrderOf (hub : HubState) (i : ℕ) (order : Order) : Type 0 where
  pub stands : StandsAt (worker_at hub i) order
  pub some_epoch : 1 ≤ order_epoch order
  pub not_later : order_epoch order ≤ hub.members.epoch
  pub current : (worker_at hub i).due ≡ false → order_epoch order ≡ hub.members.epoch
  pub mail : IsMailOf hub.inboxes i (updates_in order)

-- each order that isn't answered yet is such an order
abbrev pub OrdersFit : HubState → Type 0
OrdersFit hub = (i : ℕ) (order : Order) → order_at hub i ≡ Some order → IsOrderOf hub i order

-- the members know what each worker has to answer
abbrev pub TasksAgree : HubState → Type 0
TasksAgree hub = (i : ℕ) → (worker_at hub i).task ≡ task_of (order_at hub i)

-- ---- missing and due workers

-- worker i is due, and has no order and no report
pub record HasNothing (hub : HubState) (i : ℕ) : Type 0 where
  pub due : (worker_at hub i).due ≡ true
  pub order : order_at hub i ≡ None
  pub reported : reported_at hub i ≡ None

-- each missing worker is so
abbrev pub MissingHaveNothing : HubState → Type 0
MissingHaveNothing hub = (i : ℕ) → (worker_at hub i).live ≡ false → HasNothing hub i

-- a worker that is due has changed nothing in this epoch
abbrev pub DueUnchanged : MembersState → Type 0
DueUnchanged m = (i : ℕ) → (member_at m i).due ≡ true → (member_at m i).changed ≡ false

-- ---- epochs, losses and rounds

-- How often a worker has joined. Each loss opened an epoch, so this is the number of losses and of live workers.
abbrev pub join_count : MembersState → ℕ
join_count m = (m.epoch - 1) + live_count m

-- Epochs and losses go together.
pub record EpochsFit (hub : HubState) : Type 0 where
  pub some_epoch : 1 ≤ hub.members.epoch
  pub losses : hub.halt ≡ None → hub.members.epoch ≡ length hub.members.losses + 1
  pub loss_workers : All (λ loss. loss.worker < length hub.members.members) hub.members.losses
  pub loss_limit : (hub.members.limits.losses < length hub.members.losses) ↔ (hub.halt ≡ Some why.TooManyLosses)
  pub room : hub.members.epoch + live_count hub.members ≤ hub.members.limits.losses + length hub.members.members + 1

-- No round passes its bound.
pub record RoundsFit (m : MembersState) : Type 0 where
  pub most : (i : ℕ) → (member_at m i).live ≡ true → (member_at m i).round ≤ m.base + m.limits.rounds
  pub base_room : m.base ≤ (join_count m - 1) * m.limits.rounds
  pub room : (i : ℕ) → (member_at m i).live ≡ true → (member_at m i).round ≤ join_count m * m.limits.rounds

-- where a Step is under way, a round is left for it
abbrev pub RoundsLeft : HubState → Type 0
RoundsLeft hub = (i epoch round : ℕ) (updates : List Update) → order_at hub i ≡ Some (Step epoch round updates) →
    (worker_at hub i).round < hub.members.base + hub.members.limits.rounds

-- ---- reports

-- where a worker has reported in this epoch all is quiet, and it has nothing to answer; where it is asked to, all is quiet
pub record ReportsFit (hub : HubState) : Type 0 where
  pub idle : (i : ℕ) (values : List ℕ) → reported_at hub i ≡ Some values → order_at hub i ≡ None
  pub quiet : (i : ℕ) (values : List ℕ) → reported_at hub i ≡ Some values → IsTrue (is_quiet_hub hub)
  pub asked : (i : ℕ) → order_at hub i ≡ Some (Report hub.members.epoch) → IsTrue (is_quiet_hub hub)
  pub values : (i : ℕ) (values : List ℕ) → reported_at hub i ≡ Some values → All IsValue values

-- ---- all of them

-- the facts that every hub keeps
pub record IsHubInStep (hub : HubState) : Type 0 where
  pub limits : LimitsFit hub.members.limits
  pub places : HasPlaces hub
  pub inboxes : InboxesFit hub.inboxes
  pub orders : OrdersFit hub
  pub tasks : TasksAgree hub
  pub missing : MissingHaveNothing hub
  pub unchanged : DueUnchanged hub.members
  pub epochs : EpochsFit hub
  pub rounds : RoundsFit hub.members
  pub rounds_left : RoundsLeft hub
  pub reports : ReportsFit hub
