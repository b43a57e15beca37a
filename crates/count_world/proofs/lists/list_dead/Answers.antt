use Rattle.std.proofs.Common.{◌∙◌, ◌++◌, ◌∷◌, [], length, ap, sym, arith}
use Rattle.std.specs.Prelude.{not, if◌then◌else◌}
use Rattle.px_base.specs.Values.{is_in}
use Rattle.list_laws.proofs.Sums.{filter_more, filter_within}
use Rattle.count_world.proofs.lists.list_dead.Goals as goal

pub add_if-requires : goal.add_if-requires
add_if-requires c is =
    omega (arith, c.loop-k-test.true, ap length c.loop-k.invariant.listed, filter_within (λ k. not (is_in c.args.alive.now k)) c.loop-k.k, c.loop-k.invariant.room, c.requires.room)

pub loop-k-preserved : goal.loop-k-preserved
loop-k-preserved c = record {
  listed =
      c.add_if.ensures.items ∙ ap (λ ks. ks ++ (if not (is_in c.args.alive.now c.loop-k.k) then c.loop-k.k ∷ [] else [])) c.loop-k.invariant.listed
      ∙ sym (filter_more (λ k. not (is_in c.args.alive.now k)) c.loop-k.k);
  room = omega (arith, c.loop-k.invariant.room, c.add_if.ensures.room);
}
