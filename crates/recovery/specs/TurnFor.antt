-- What a worker is told, as the hub's rules name it.
use Rattle.std.specs.Prelude.{ℕ, ⊤}
use Rattle.px_base.specs.declared.wire.Order.TheVariants.{Step, Report}
use Rattle.hub_terms.specs.Hubs as hubs
use Rattle.recovery.specs.declared.given.Turn.{Turn}
use Rattle.recovery.specs.declared.given.Turn.TheVariants.{Work, Wait, Done, Stop}

-- the turn is to take a Step
abbrev pub IsStepTurn : hubs.Turn → Type 0
IsStepTurn (hubs.work (Step epoch round updates)) = ⊤
IsStepTurn (hubs.work (Report epoch)) = ⊥
IsStepTurn hubs.wait = ⊥
IsStepTurn hubs.done = ⊥
IsStepTurn (hubs.stop reason) = ⊥

-- the same turn of worker i
abbrev pub turn_for : ℕ → hubs.Turn → Turn
turn_for i (hubs.work order) = Work (record { worker = i; order = order })
turn_for i hubs.wait = Wait
turn_for i hubs.done = Done
turn_for i (hubs.stop reason) = Stop reason
