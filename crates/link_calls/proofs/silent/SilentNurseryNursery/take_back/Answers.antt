use Rattle.std.proofs.Common.{◌≡◌, arith, sym, subst, map, length, refl, rules}
use Rattle.link_trait.specs.Nurseries.{AreBack, NurseryView}
use Rattle.link_trait.specs.Spawners.{SpawnerView}
use Rattle.link_calls.specs.Silent.{nursery_view}
use Rattle.link_calls.proofs.Lending.{are_back}
use Rattle.link_trait.proofs.Lent.{count_is}
use Rattle.link_calls.proofs.silent.SilentNurseryNursery.take_back.Goals as goal

pub add_all-requires : goal.add_all-requires
add_all-requires c =
    let back : AreBack (nursery_view c.self.inside) (map (λ (s : SpawnerView). s) c.args.spawners.items) = subst (λ (n : NurseryView). AreBack n (map (λ (s : SpawnerView). s) c.args.spawners.items)) (sym c.self.view_is) c.requires in
    omega (arith, c.self.invariant.1, count_is (λ (s : SpawnerView). s) _ c.args.spawners.items back)

pub overflow_sub-self : goal.overflow_sub-self
overflow_sub-self c =
    let back : AreBack (nursery_view c.self.inside) (map (λ (s : SpawnerView). s) c.args.spawners.items) = subst (λ (n : NurseryView). AreBack n (map (λ (s : SpawnerView). s) c.args.spawners.items)) (sym c.self.view_is) c.requires in
    let count : c.len-count.result ≡ length c.args.spawners.items = search rules in
    omega (arith, back.room, count_is (λ (s : SpawnerView). s) _ c.args.spawners.items back, count)

pub returns : goal.returns
returns c =
    let count : c.len-count.result ≡ length c.args.spawners.items = search rules in
    rw (← c.self.view_is) (are_back (nursery_view c.self.inside) c.args.spawners.items _ _ _ _ refl c.add_all.ensures.nothing c.add_all.ensures.starts c.add_all.ensures.faults c.add_all.ensures.ends count)
