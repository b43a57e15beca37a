use Rattle.std.proofs.Common.{◌≤◌, ◌+◌, ◌∙◌, ap, arith, subst, sym}
use Rattle.std.proofs.lemmas.List.Elements.{All-set, All-weaker}
use Rattle.memory_nursery.specs.States.{SpawnerState}
use Rattle.link_trait.proofs.Lent.{count_is, home_again}
use Rattle.link_calls.proofs.memory_tests.lend_for.Goals as goal

pub loop-worker-preserved : goal.loop-worker-preserved
loop-worker-preserved g c =
    let size = count_is (λ (s : SpawnerState). s.spawner) _ c.loop-worker.spawners.items c.loop-worker.invariant.back in
    let old : c.index_mut.result.now.spawner.starts ≤ c.loop-worker.worker-index = subst (λ (s : SpawnerState). s.spawner.starts ≤ c.loop-worker.worker-index) (sym c.index_mut.ensures.value)
    (c.loop-worker.invariant.few _ c.index_mut.result.now (omega (arith, size, c.loop-worker.invariant.count, c.if-worker-ge2.false))) in
    record {
      back = home_again (λ (s : SpawnerState). s.spawner) _ c.loop-worker.spawners.items c.loop-worker.invariant.back _ c.live.new.spawner c.index_mut.result.now
          (omega (arith, size, c.loop-worker.invariant.count, c.if-worker-ge2.false))
          (c.in_ok-lived.ensures.worker ∙ ap (λ (s : SpawnerState). s.spawner.worker) c.index_mut.ensures.value)
          (c.in_ok-lived.ensures.mark ∙ ap (λ (s : SpawnerState). s.spawner.lent_as) c.index_mut.ensures.value)
          c.in_ok-lived.ensures.home;
      count = c.loop-worker.invariant.count;
      few = All-set (λ (s : SpawnerState). s.spawner.starts ≤ c.loop-worker.worker-index + 1) c.loop-worker.spawners.items _ c.live.new.spawner (omega (arith, c.in_ok-lived.ensures.starts, old))
          (All-weaker (λ (s : SpawnerState). s.spawner.starts ≤ c.loop-worker.worker-index) (λ (s : SpawnerState). s.spawner.starts ≤ c.loop-worker.worker-index + 1) (λ s h. omega (arith, h)) c.loop-worker.spawners.items c.loop-worker.invariant.few);
    }
