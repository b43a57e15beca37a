-- What is under way to a worker in the order that it hasn't answered yet.
use Rattle.std.specs.Prelude.{ℕ, ◌==◌, List, [], find, if◌then◌else◌, Option, Some, None}
use Rattle.px_base.specs.declared.wire.Update.{Update}
use Rattle.px_base.specs.declared.wire.Order.{Order}
use Rattle.px_base.specs.declared.wire.Order.TheVariants.{Step, Report}
use Rattle.px_base.specs.Worlds.{updates_in}
use Rattle.hub_terms.specs.declared.tasks.Task.{Task}
use Rattle.hub_terms.specs.declared.tasks.Task.TheVariants as task
use Rattle.hub_terms.specs.Hubs.{HubState, order_at}

-- ---- an order

-- the epoch that an order names
abbrev pub order_epoch : Order → ℕ
order_epoch (Step epoch round updates) = epoch
order_epoch (Report epoch) = epoch

-- what a worker with this order has to answer
abbrev pub task_of : Option Order → Task
task_of None = task.Nothing
task_of (Some (Step epoch round updates)) = task.Step
task_of (Some (Report epoch)) = task.Report

-- ---- updates under way

-- those that an order carries, where there is one
abbrev pub updates_of : Option Order → List Update
updates_of None = []
updates_of (Some order) = updates_in order

-- those that it carries, where it is of the epoch now
abbrev pub updates_now : ℕ → Option Order → List Update
updates_now now None = []
updates_now now (Some (Step epoch round updates)) = if epoch == now then updates else []
updates_now now (Some (Report epoch)) = []

-- the updates of the order that worker i hasn't answered yet, of any epoch
abbrev pub outstanding_updates : HubState → ℕ → List Update
outstanding_updates hub i = updates_of (order_at hub i)

-- the updates of the Step of this epoch that worker i hasn't answered yet
abbrev pub current_updates : HubState → ℕ → List Update
current_updates hub i = updates_now hub.members.epoch (order_at hub i)

-- the value that the first update of v carries
abbrev pub value_in : List Update → ℕ → Option ℕ
value_in updates v = elim (find (λ u. u.vertex == v) updates) [ None ↦ None | Some u ↦ Some u.value ]
