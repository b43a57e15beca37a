use Rattle.std.proofs.Common.{◌++◌, ◌∷◌, [], List, ◌∙◌, ap₂, sym}
use Rattle.px_base.proofs.Positions.{by_position_more}
use Rattle.memory_nursery.specs.States.{SpawnerState, new_spawner_state}
use Rattle.memory_nursery.proofs.mem_nursery.MemNursery.spawners.Goals as goal

pub loop-worker-preserved : goal.loop-worker-preserved
loop-worker-preserved c =
    c.in_ok-push.ensures.items
    ∙ (ap₂ (λ (all : List SpawnerState) (s : SpawnerState). all ++ s ∷ []) c.loop-worker.invariant c.in_ok-spawner.ensures
    ∙ sym (by_position_more c.loop-worker.worker (new_spawner_state c.args.self.now)))
