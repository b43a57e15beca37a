use Rattle.std.proofs.Common.{◌≡◌}
use Rattle.px_base.specs.Values.{by_position}
use Rattle.memory_nursery.specs.States.{new_spawner_state}
use Rattle.memory_nursery.proofs.mem_nursery.MemNursery.spawners.Given as goal

-- those so far
abbrev pub invariant-loop-worker : goal.invariant-loop-worker
invariant-loop-worker l = l.all.items ≡ by_position l.worker (new_spawner_state l.fn.self)
