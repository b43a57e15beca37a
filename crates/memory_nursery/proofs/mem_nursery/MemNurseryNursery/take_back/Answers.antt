use Rattle.std.proofs.Common.{◌∙◌, sym, subst, ap, arith, map}
use Rattle.link_trait.specs.Nurseries.{AreBack}
use Rattle.memory_nursery.specs.States.{NurseryState, SpawnerState, taken_back}
use Rattle.memory_nursery.specs.Views.{nursery_view}
use Rattle.memory_nursery.proofs.Returning.{back_keeps, is_back}
use Rattle.memory_nursery.proofs.Tallying.{how_many}
use Rattle.memory_nursery.proofs.mem_nursery.MemNurseryNursery.take_back.Goals as goal

pub take_all-requires-clause-few : goal.take_all-requires-clause-few
take_all-requires-clause-few c =
    let back : AreBack (nursery_view c.self.inside).nursery (map (λ (s : SpawnerState). s.spawner) c.args.spawners.items) = subst (λ (n : NurseryState). AreBack n.nursery (map (λ (s : SpawnerState). s.spawner) c.args.spawners.items)) (sym c.self.view_is) c.requires in
    omega (arith, c.self.invariant.keeps.few, how_many _ c.args.spawners.items back)

pub take_all-requires-clause-room : goal.take_all-requires-clause-room
take_all-requires-clause-room c =
    let back : AreBack (nursery_view c.self.inside).nursery (map (λ (s : SpawnerState). s.spawner) c.args.spawners.items) = subst (λ (n : NurseryState). AreBack n.nursery (map (λ (s : SpawnerState). s.spawner) c.args.spawners.items)) (sym c.self.view_is) c.requires in
    omega (arith, back.room, how_many _ c.args.spawners.items back)

pub invariant_of-self : goal.invariant_of-self
invariant_of-self c =
    let back : AreBack (nursery_view c.self.inside).nursery (map (λ (s : SpawnerState). s.spawner) c.args.spawners.items) = subst (λ (n : NurseryState). AreBack n.nursery (map (λ (s : SpawnerState). s.spawner) c.args.spawners.items)) (sym c.self.view_is) c.requires in
    record {
      keeps = back_keeps (nursery_view c.self.inside) _ c.args.spawners.items c.self.invariant.keeps back c.take_all.ensures.kept
          (is_back c.self.inside.lent _ _ _ _ _ _ _ _ _ _ _ c.args.spawners.items c.take_all.ensures.counts c.take_all.ensures.retired c.take_all.ensures.len c.take_all.ensures.capacity);
      losses = c.self.invariant.losses;
      refusals = c.self.invariant.refusals;
    }

pub returns-clause-back : goal.returns-clause-back
returns-clause-back c = record {
  nursery = ap (λ (n : NurseryState). n.nursery) (is_back c.self.inside.lent _ _ _ _ _ _ _ _ _ _ _ c.args.spawners.items c.take_all.ensures.counts c.take_all.ensures.retired c.take_all.ensures.len c.take_all.ensures.capacity
      ∙ ap (λ (n : NurseryState). taken_back n c.args.spawners.items) c.self.view_is);
}

pub returns-clause-numbers : goal.returns-clause-numbers
returns-clause-numbers c =
    is_back c.self.inside.lent _ _ _ _ _ _ _ _ _ _ _ c.args.spawners.items c.take_all.ensures.counts c.take_all.ensures.retired c.take_all.ensures.len c.take_all.ensures.capacity
    ∙ ap (λ (n : NurseryState). taken_back n c.args.spawners.items) c.self.view_is
