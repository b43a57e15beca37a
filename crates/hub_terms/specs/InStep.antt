-- The book-keeping that every state keeps, beside being valid for its class. Each fact has a name of its own. Where the links
-- tell no worlds, the facts about worlds say nothing.
use Rattle.std.specs.Prelude.{◌≡◌, ℕ, zero, suc, ◌+◌, ◌-◌, ◌<◌, ◌≤◌, ◌↔◌, Bool, true, false, not, ◌&&◌, List, All, length, slice_index, Option, Some, None, IsTrue, is_none, ⊤}
use Rattle.px_base.specs.declared.wire.Order.{Order}
use Rattle.px_base.specs.declared.wire.Update.{Update}
use Rattle.px_base.specs.declared.graph.Part.{Part}
use Rattle.px_base.specs.Graphs.{row_at}
use Rattle.px_base.specs.Parts.{IsWorkerCuts, PartFits, is_master, is_mirror, part_count, routes_of}
use Rattle.px_base.specs.Values.{place_of}
use Rattle.px_base.specs.Classes.{counts_reads}
use Rattle.px_base.specs.Answers.{reads_needed}
use Rattle.px_base.specs.declared.program.CoreProgram.{CoreProgram}
use Rattle.px_base.specs.Worlds.{World, ValueWorld, CountWorld, ValueWorldFits, of_values, of_counts, masters_of, epoch_of, takes_update, new_world, refusal_of}
use Rattle.px_base.specs.ValueSteps.{renewed_masters}
use Rattle.px_base.specs.CountSteps.{dies}
use Rattle.hub_terms.specs.Jobs.{IsSound}
use Rattle.hub_terms.specs.Hubs.{worker_at, order_at, reported_at, waiting_at}
use Rattle.hub_terms.specs.UnderWay.{current_updates, value_in}
use Rattle.hub_terms.specs.HubInStep.{IsHubInStep}
use Rattle.hub_terms.specs.Systems.{SystemState, world_at, part_at}
use Rattle.hub_terms.specs.Valid.{dead_beside}

-- ---- the job

-- The hub is one for the job: its cuts and routes are those of the graph, it counts where the program does, and there is a
-- place for each worker's world.
pub record IsForJob (s : SystemState) : Type 0 where
  pub sound : IsSound s.job
  pub cuts : IsWorkerCuts (length s.job.rows) s.hub.inboxes.cuts
  pub routes : s.hub.inboxes.routes ≡ routes_of s.job.rows s.hub.inboxes.cuts
  pub counting : s.hub.inboxes.counting ≡ counts_reads s.job.core.program.fold
  pub worlds : length s.worlds ≡ part_count s.hub.inboxes.cuts

-- ---- one world

-- a world that counts keeps: its part fits, and there are a flag and a count for each master
pub record CountWorldFits (w : CountWorld) : Type 0 where
  pub part : PartFits w.part
  pub alive : length w.alive ≡ w.part.high - w.part.low
  pub flags : All (λ f. f ≤ 1) w.alive
  pub counts : length w.counts ≡ w.part.high - w.part.low

-- The world is one of this part for this program: of values, or of counts where the program counts.
abbrev pub IsWorldOf : Part → CoreProgram → World → Type 0
IsWorldOf part core (of_values w) = (counts_reads core.program.fold ≡ false) × (w.part ≡ part) × (w.core ≡ core) × ValueWorldFits w
IsWorldOf part core (of_counts w) = (counts_reads core.program.fold ≡ true) × (w.part ≡ part) × (w.needed ≡ reads_needed core.program.fold) × CountWorldFits w

-- the round of the world's last Step
abbrev pub round_of : World → ℕ
round_of (of_values w) = w.round
round_of (of_counts w) = w.round

-- A world of epoch 0 is a new one, and its worker's round is at most the base. Any other world has made its last Step one
-- round before its worker's round.
abbrev pub IsAtRound : SystemState → ℕ → World → ℕ → Type 0
IsAtRound s i w zero = (w ≡ new_world (part_at s i) s.job.core) × ((worker_at s.hub i).round ≤ s.hub.members.base)
IsAtRound s i w (suc epoch) = round_of w + 1 ≡ (worker_at s.hub i).round

-- the order isn't refused by the world
abbrev pub IsAccepted : World → Order → Type 0
IsAccepted w order = refusal_of (epoch_of w) (takes_update w) order ≡ None

-- what holds of live worker i and its world
pub record IsWorldInStep (s : SystemState) (i : ℕ) (w : World) : Type 0 where
  pub of_part : IsWorldOf (part_at s i) s.job.core w
  pub not_ahead : epoch_of w ≤ s.hub.members.epoch
  pub due : ((worker_at s.hub i).due ≡ true) ↔ (epoch_of w < s.hub.members.epoch)
  pub at_round : IsAtRound s i w (epoch_of w)
  pub accepts : (order : Order) → order_at s.hub i ≡ Some order → IsAccepted w order
  pub reported : (values : List ℕ) → reported_at s.hub i ≡ Some values → values ≡ masters_of w

-- the same of each worker that has a world
abbrev pub WorldsInStep : SystemState → Type 0
WorldsInStep s = (i : ℕ) (w : World) → world_at s i ≡ Some w → IsWorldInStep s i w

-- where the links tell, exactly the live workers have a world
abbrev pub LiveHaveWorlds : SystemState → Type 0
LiveHaveWorlds s = (i : ℕ) → is_none (world_at s i) ≡ not (s.told && (worker_at s.hub i).live)

-- ---- values on their way

-- Of these the newest is x: the value of the inbox, or else that of the Step under way, or else what the world has seen.
abbrev pub IsNewest : Option ℕ → Option ℕ → Type 0 → ℕ → Type 0
IsNewest (Some y) sent HasSeen x = y ≡ x
IsNewest None (Some y) HasSeen x = y ≡ x
IsNewest None None HasSeen x = HasSeen

-- The newest value for v on its way to a worker, with this inbox, these updates of a Step under way, and this world, is x. It is
-- that of the mirror only where the worker isn't due.
abbrev pub HasNewest : List Update → List Update → Bool → ValueWorld → ℕ → ℕ → Type 0
HasNewest inbox sent due w v x = IsNewest (value_in inbox v) (value_in sent v) ((due ≡ false) × (slice_index w.mirrors (place_of w.part.mirrors v) ≡ x)) x

-- the same, whatever world the worker has; a missing one will have what its inbox has
abbrev pub WillHave : List Update → List Update → Bool → Option World → ℕ → ℕ → Type 0
WillHave inbox sent due (Some (of_values w)) v x = HasNewest inbox sent due w v x
WillHave inbox sent due (Some (of_counts w)) v x = ⊤
WillHave inbox sent due None v x = value_in inbox v ≡ Some x

-- worker j has, or will have, the value x of v
abbrev pub WorkerWillHave : SystemState → ℕ → ℕ → ℕ → Type 0
WorkerWillHave s j v x = WillHave (waiting_at s.hub j) (current_updates s.hub j) (worker_at s.hub j).due (world_at s j) v x

-- the value of each master of a worker that isn't due is at each worker that mirrors it, or on its way there
abbrev pub ValuesArrive : SystemState → Type 0
ValuesArrive s = (i j v : ℕ) (w : ValueWorld) → world_at s i ≡ Some (of_values w) → (worker_at s.hub i).due ≡ false →
    IsTrue (is_master s.hub.inboxes.cuts i v) → IsTrue (is_mirror s.job.rows s.hub.inboxes.cuts j v) → j < part_count s.hub.inboxes.cuts →
    WorkerWillHave s j v (slice_index w.masters (v - w.part.low))

-- ---- settled and honest

-- renewing the world now would change no master
abbrev pub IsSettled : World → Type 0
IsSettled (of_values w) = renewed_masters w.part w.core w.masters w.mirrors ≡ w.masters
IsSettled (of_counts w) = (k : ℕ) → k < length w.alive → dies w k ≡ false

-- the world of a worker that isn't due, and whose last Step changed nothing, is settled
abbrev pub UnchangedAreSettled : SystemState → Type 0
UnchangedAreSettled s = (i : ℕ) (w : World) → world_at s i ≡ Some w → (worker_at s.hub i).due ≡ false → (worker_at s.hub i).changed ≡ false → IsSettled w

-- each count is at most the row's length less the dead masters beside it
abbrev pub IsHonest : World → Type 0
IsHonest (of_values w) = ⊤
IsHonest (of_counts w) = (k : ℕ) → k < length w.alive → slice_index w.counts k + dead_beside (of_counts w) (row_at w.part.rows k) ≤ length (row_at w.part.rows k)

-- the counts of a worker that isn't due are honest
abbrev pub CountsAreHonest : SystemState → Type 0
CountsAreHonest s = (i : ℕ) (w : World) → world_at s i ≡ Some w → (worker_at s.hub i).due ≡ false → IsHonest w

-- ---- all of them

-- the facts that every state keeps
pub record IsInStep (s : SystemState) : Type 0 where
  pub job : IsForJob s
  pub hub : IsHubInStep s.hub
  pub live_worlds : LiveHaveWorlds s
  pub worlds : WorldsInStep s
  pub values : ValuesArrive s
  pub settled : UnchangedAreSettled s
  pub honest : CountsAreHonest s
