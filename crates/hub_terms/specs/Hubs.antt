-- What the hub keeps, and what a worker is told to do.
use Rattle.std.specs.Prelude.{ℕ, Bool, true, false, not, List, [], replicate, slice_index_or, slice_set, if◌then◌else◌, Option, Some, None, is_some, is_none, unwrap_or}
use Rattle.std.specs.List.{list_all, flat_map}
use Rattle.px_base.specs.declared.wire.Update.{Update}
use Rattle.px_base.specs.declared.wire.Order.{Order}
use Rattle.px_base.specs.declared.wire.Order.TheVariants.{Step, Report}
use Rattle.px_base.specs.Parts.{part_count}
use Rattle.hub_terms.specs.declared.tasks.Limits.{Limits}
use Rattle.hub_terms.specs.declared.stops.Why.{Why}
use Rattle.hub_terms.specs.declared.stops.Why.TheVariants as why
use Rattle.hub_terms.specs.declared.workers.MemberState.{MemberState}
use Rattle.hub_terms.specs.Members.{MembersState, opening_members, member_at, may_step, is_quiet, is_spent, with_given}
use Rattle.hub_terms.specs.Inboxes.{InboxesState, opening_inboxes, inbox_at, is_empty_box, all_empty, with_drained}

-- ---- what is kept

-- The members, the inboxes, the reason to stop where there is one, and for each worker the order that it hasn't answered yet
-- and the values that it has reported in this epoch.
pub record HubState : Type 0 where
  pub members : MembersState
  pub inboxes : InboxesState
  pub halt : Option Why
  pub orders : List (Option Order)
  pub reported : List (Option (List ℕ))

-- the hub before the first event
abbrev pub opening_hub : List ℕ → List (List ℕ) → Bool → Limits → HubState
opening_hub cuts routes counting limits = record {
  members = opening_members (part_count cuts) limits;
  inboxes = opening_inboxes cuts routes counting;
  halt = None;
  orders = replicate (part_count cuts) None;
  reported = replicate (part_count cuts) None;
}

-- how many workers there are
abbrev pub worker_count : HubState → ℕ
worker_count hub = part_count hub.inboxes.cuts

-- what is kept of worker i
abbrev pub worker_at : HubState → ℕ → MemberState
worker_at hub i = member_at hub.members i

-- the order that worker i hasn't answered yet
abbrev pub order_at : HubState → ℕ → Option Order
order_at hub i = slice_index_or hub.orders i None

-- the values that worker i has reported in this epoch
abbrev pub reported_at : HubState → ℕ → Option (List ℕ)
reported_at hub i = slice_index_or hub.reported i None

-- the updates that wait for worker i
abbrev pub waiting_at : HubState → ℕ → List Update
waiting_at hub i = inbox_at hub.inboxes i

-- some updates wait for worker i
abbrev pub has_mail : HubState → ℕ → Bool
has_mail hub i = not (is_empty_box (waiting_at hub i))

-- ---- a worker's turn

-- all is quiet: no worker has anything to do, and no update waits
abbrev pub is_quiet_hub : HubState → Bool
is_quiet_hub hub = is_quiet hub.members (all_empty hub.inboxes)

-- each worker has reported in this epoch
abbrev pub all_reported : HubState → Bool
all_reported hub = list_all is_some hub.reported

-- The values that the workers have reported in this epoch, one worker after another. Where each has reported, that is by
-- position, since the parts stand in the order of their ranges.
abbrev pub reported_values : HubState → List ℕ
reported_values hub = flat_map (λ values. unwrap_or values []) hub.reported

-- what a worker that asks is told: to answer an order, to wait, that all is done, or to stop
pub data Turn : Type 0 where
  work : Order → Turn
  wait : Turn
  done : Turn
  stop : Why → Turn

-- the turn where all is quiet: each worker reports once, and then all is done
abbrev pub quiet_turn : HubState → ℕ → Turn
quiet_turn hub i = if all_reported hub then done
    else if is_none (reported_at hub i) then work (Report hub.members.epoch) else wait

-- the turn where all isn't quiet
abbrev pub busy_turn : HubState → ℕ → Turn
busy_turn hub i = if may_step hub.members i (has_mail hub i) then work (Step hub.members.epoch (worker_at hub i).round (waiting_at hub i))
    else if is_spent hub.members then stop why.Budget else wait

-- the turn where there is no reason to stop yet
abbrev pub open_turn : HubState → ℕ → Turn
open_turn hub i = if is_quiet_hub hub then quiet_turn hub i else busy_turn hub i

-- what worker i is told
abbrev pub turn_of : HubState → ℕ → Turn
turn_of hub i = elim hub.halt [ Some reason ↦ stop reason | None ↦ open_turn hub i ]

-- the hub with this order for worker i, which stays with it until it is answered or the worker is lost; a Step carries all
-- that waited for the worker
abbrev pub with_order : HubState → ℕ → Order → HubState
with_order hub i (Step epoch round updates) = record hub {
  members = with_given hub.members i true;
  inboxes = with_drained hub.inboxes i;
  orders = slice_set hub.orders i (Some (Step epoch round updates));
}
with_order hub i (Report epoch) = record hub {
  members = with_given hub.members i false;
  orders = slice_set hub.orders i (Some (Report epoch));
}

-- the hub after the turn; a reason to stop is kept
abbrev pub after_turn : HubState → ℕ → Turn → HubState
after_turn hub i (work order) = with_order hub i order
after_turn hub i (stop reason) = record hub { halt = Some reason }
after_turn hub i wait = hub
after_turn hub i done = hub
