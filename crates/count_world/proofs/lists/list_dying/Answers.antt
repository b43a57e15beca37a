use Rattle.std.proofs.Common.{◌∙◌, ◌++◌, ◌∷◌, [], length, ap, sym, arith}
use Rattle.std.specs.Prelude.{if◌then◌else◌}
use Rattle.count_world.specs.Sets.{is_dying}
use Rattle.list_laws.proofs.Sums.{filter_more, filter_within}
use Rattle.count_world.proofs.lists.list_dying.Goals as goal

pub add_if-requires : goal.add_if-requires
add_if-requires c is =
    omega (arith, c.loop-k-test.true, ap length c.loop-k.invariant.listed, filter_within (is_dying c.args.alive.now c.args.counts.now c.args.needed) c.loop-k.k, c.loop-k.invariant.room, c.requires.room)

pub loop-k-preserved : goal.loop-k-preserved
loop-k-preserved c = record {
  listed =
      c.add_if.ensures.items ∙ ap (λ b. c.loop-k.list.items ++ (if b then c.loop-k.k ∷ [] else [])) c.is_dying.ensures
      ∙ ap (λ ks. ks ++ (if is_dying c.args.alive.now c.args.counts.now c.args.needed c.loop-k.k then c.loop-k.k ∷ [] else [])) c.loop-k.invariant.listed
      ∙ sym (filter_more (is_dying c.args.alive.now c.args.counts.now c.args.needed) c.loop-k.k);
  room = omega (arith, c.loop-k.invariant.room, c.add_if.ensures.room);
}
