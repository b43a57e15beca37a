use Rattle.std.proofs.Common.{◌∙◌, arith, map, refl}
use Rattle.std.specs.Option.{option_map}
use Rattle.std.proofs.lemmas.List.{length-set}
use Rattle.driver_laws.proofs.Release.{releasing_init, releasing_link, releasing_more}
use Rattle.supervisor.proofs.release.release_all.Goals as goal

pub loop-i-init : goal.loop-i-init
loop-i-init g c = record {
  count = refl;
  link_count = refl;
  released = releasing_init c.args.keep (map g.S.Spawner.shown c.args.spawners.now.items) (map (option_map g.S.L.Link.shown) c.args.links.now.items);
}

pub release_at-requires-after_bounds : goal.release_at-requires-after_bounds
release_at-requires-after_bounds g c κs within =
    releasing_link g.S.Spawner.shown g.S.L.Link.shown c.args.keep (map g.S.Spawner.shown c.args.spawners.now.items) (map (option_map g.S.L.Link.shown) c.args.links.now.items)
    c.loop-i.spawners.items c.loop-i.links.items c.loop-i.i c.index_mut.result.now c.index_mut-in-loop-i.result.now c.loop-i.invariant.released
    (omega (arith, c.loop-i.invariant.count)) (omega (arith, c.loop-i.invariant.link_count, c.requires.count)) c.index_mut.ensures.value c.index_mut-in-loop-i.ensures.value
    (c.requires.links c.loop-i.i (g.S.Spawner.shown c.index_mut.result.now) (omega arith))

pub loop-i-preserved : goal.loop-i-preserved
loop-i-preserved g c = record {
  count = length-set c.loop-i.spawners.items c.loop-i.i c.release_at.new.spawner ∙ c.loop-i.invariant.count;
  link_count = length-set c.loop-i.links.items c.loop-i.i c.release_at.new.link ∙ c.loop-i.invariant.link_count;
  released = releasing_more g.S.Spawner.shown g.S.L.Link.shown c.args.keep (map g.S.Spawner.shown c.args.spawners.now.items) (map (option_map g.S.L.Link.shown) c.args.links.now.items)
      c.loop-i.spawners.items c.loop-i.links.items c.loop-i.i c.index_mut.result.now c.index_mut-in-loop-i.result.now c.loop-i.invariant.released
      (omega (arith, c.loop-i.invariant.count)) (omega (arith, c.loop-i.invariant.link_count, c.requires.count)) c.index_mut.ensures.value c.index_mut-in-loop-i.ensures.value
      c.release_at.new.spawner c.release_at.new.link c.release_at.ensures;
}
