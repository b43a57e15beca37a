-- What a turn of a worker is, as events of the core; what it leaves of the others; and how much may still happen after it.
use Rattle.std.specs.Prelude.{◌≡◌, ℕ, ◌+◌, ◌-◌, ◌*◌, ◌<◌, Bool, true, false, List, [], ◌∷◌, length, sum_by, count_by, if◌then◌else◌, Some, None, is_none, ◌⊎◌}
use Rattle.px_base.specs.declared.wire.Answer.{Answer}
use Rattle.px_base.specs.declared.wire.LossKind.{LossKind}
use Rattle.px_base.specs.declared.wire.LossKind.TheVariants.{Ended}
use Rattle.hub_terms.specs.declared.stops.Halt.{Halt}
use Rattle.hub_terms.specs.declared.stops.Halt.TheVariants.{Memory}
use Rattle.hub_terms.specs.declared.stops.Why.TheVariants as why
use Rattle.hub_terms.specs.declared.workers.MemberState.{MemberState}
use Rattle.hub_terms.specs.Members.{MembersState}
use Rattle.hub_terms.specs.HubInStep.{join_count}
use Rattle.hub_terms.specs.Hubs.{HubState, order_at, turn_of, wait, worker_at}
use Rattle.hub_terms.specs.Systems.{SystemState, Event, give, halt, IsRun, joined, lost, state_after_all, took}
use Rattle.round_laws.specs.Rounds.{AllLive}
use Rattle.system_core.specs.Promises.{IsDone}

-- ---- what a turn is

-- What comes of an order: the worker answers it; or it is lost; or memory is wanting at its link, which stops the run, and then the
-- worker is lost too.
pub data Reply : Type 0 where
  answers : Answer → Reply
  is_lost : LossKind → Reply
  gives_up : Reply

-- the events of worker i that this is. The last loss isn't noted, since a reason to stop is kept before it.
abbrev pub reply_events : ℕ → Reply → List Event
reply_events i (answers answer) = took i answer ∷ []
reply_events i (is_lost kind) = lost i kind ∷ []
reply_events i gives_up = halt i Memory ∷ lost i Ended ∷ []

-- What a turn comes to. For a missing worker a new one joins, or the run stops since none could be started. A live one is told to
-- wait, that all is done or that the run stops; or memory is wanting for its order; or it is given an order, of which
-- something comes.
pub data Turned : Type 0 where
  joins : Turned
  stays_away : Halt → Turned
  rests : Turned
  wants : Turned
  works : Reply → Turned

-- the events of worker i that this is
abbrev pub turn_events : ℕ → Turned → List Event
turn_events i joins = joined i ∷ []
turn_events i (stays_away reason) = halt i reason ∷ []
turn_events i rests = give i ∷ []
turn_events i wants = halt i Memory ∷ []
turn_events i (works reply) = give i ∷ reply_events i reply

-- whether it is a turn of a live worker
abbrev pub is_of_live : Turned → Bool
is_of_live joins = false
is_of_live (stays_away reason) = false
is_of_live rests = true
is_of_live wants = true
is_of_live (works reply) = true

-- The events led from the one state to the other, and each could come.
pub record Leads (old new : SystemState) (events : List Event) : Type 0 where
  pub may : IsRun old events
  pub after : new ≡ state_after_all old events

-- This came of the order of worker i.
pub record IsReply (i : ℕ) (old new : SystemState) : Type 0 where
  pub reply : Reply
  pub events : Leads old new (reply_events i reply)

-- Worker i had a turn. It has no order after it.
pub record IsTurn (i : ℕ) (old new : SystemState) : Type 0 where
  pub turned : Turned
  pub live : (worker_at old.hub i).live ≡ is_of_live turned
  pub events : Leads old new (turn_events i turned)
  pub idle : order_at new.hub i ≡ None

-- ---- what stays

-- the two states are of the same run: job, cuts and limits are the same, and so is whether links tell
pub record IsSameRun (old new : SystemState) : Type 0 where
  pub job : new.job ≡ old.job
  pub told : new.told ≡ old.told
  pub limits : new.hub.members.limits ≡ old.hub.members.limits
  pub cuts : new.hub.inboxes.cuts ≡ old.hub.inboxes.cuts

-- ---- how much may still happen

-- how often workers can join at most: once each, and once after each loss that is allowed
abbrev pub most_joins : MembersState → ℕ
most_joins m = m.limits.losses + length m.members

-- how many joins and how many losses may still come
abbrev pub joins_left : HubState → ℕ
joins_left hub = most_joins hub.members - join_count hub.members

abbrev pub losses_left : HubState → ℕ
losses_left hub = most_joins hub.members + 1 - hub.members.epoch

-- how many rounds a worker may still go, where it is live, and how many all of them
abbrev pub rounds_of : MembersState → MemberState → ℕ
rounds_of m w = if w.live then (m.base + m.limits.rounds) - w.round else 0

abbrev pub rounds_left : HubState → ℕ
rounds_left hub = sum_by (rounds_of hub.members) hub.members.members

-- after no join are there more
abbrev pub most_rounds : MembersState → ℕ
most_rounds m = length m.members * (most_joins m * m.limits.rounds)

-- how many workers haven't reported
abbrev pub reports_left : HubState → ℕ
reports_left hub = count_by is_none hub.reported

-- How much may still happen: joins, losses, rounds and reports. A join may bring back rounds, and a loss reports, so each counts for
-- more than these.
abbrev pub work_left : HubState → ℕ
work_left hub = joins_left hub * (most_rounds hub.members + 1) + losses_left hub * (length hub.members.members + 1) + rounds_left hub + reports_left hub

-- nothing has changed, since worker i is live and was told to wait
pub record HasWaited (i : ℕ) (old new : SystemState) : Type 0 where
  pub same : new ≡ old
  pub live : (worker_at old.hub i).live ≡ true
  pub told : turn_of old.hub i ≡ wait

-- The run goes on after a turn of worker i: less may still happen than before, unless the worker was told to wait.
pub record GoesOn (i : ℕ) (old new : SystemState) : Type 0 where
  pub free : new.hub.halt ≡ None
  pub moved : (work_left new.hub < work_left old.hub) ⊎ HasWaited i old new

-- The run goes on after each worker had a turn, and less may still happen.
pub record IsNearer (old new : SystemState) : Type 0 where
  pub free : new.hub.halt ≡ None
  pub moved : work_left new.hub < work_left old.hub

-- The run is over: a reason to stop is kept, or all is done. Where no round is left all workers are live.
pub record IsOver (s : SystemState) : Type 0 where
  pub done : s.hub.halt ≡ None → IsDone s
  pub spent : s.hub.halt ≡ Some why.Budget → AllLive s.hub
