use Rattle.std.proofs.Common.{◌≡◌, ◌≤◌, map}
use Rattle.std.specs.Prelude.{All}
use Rattle.link_trait.specs.Nurseries.{AreBack}
use Rattle.memory_nursery.specs.States.{SpawnerState}
use Rattle.link_calls.proofs.memory_tests.lend_for.Given as goal

-- the spawners are home, and each has started at most as many links as there were rows
abbrev pub invariant-loop-worker : goal.invariant-loop-worker
invariant-loop-worker g l = record {
  back : AreBack l.nursery.nursery (map (λ (s : SpawnerState). s.spawner) l.spawners.items);
  count : l.nursery.nursery.count ≡ 2;
  few : All (λ (s : SpawnerState). s.spawner.starts ≤ l.worker-index) l.spawners.items;
}
