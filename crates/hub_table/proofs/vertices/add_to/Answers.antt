use Rattle.std.proofs.Common.{ℕ, ◌<◌, ◌++◌, ◌∷◌, [], length, get_or, refl, ap, ◌∙◌, arith}
use Rattle.std.proofs.lemmas.List.{length-set, get_or_default}
use Rattle.list_laws.proofs.Delivered.{delivered_more}
use Rattle.hub_table.proofs.vertices.add_to.Goals as goal

pub loop-j-preserved : goal.loop-j-preserved
loop-j-preserved c =
    let j : ℕ = get_or c.args.route.now c.loop-j.j-index 0 in
    let inside : c.loop-j.j-index < length c.args.route.now = omega arith in
    let room : j < length c.loop-j.lists.items = omega (arith, c.requires.within c.loop-j.j-index 0 inside, c.loop-j.invariant.count) in
    record {
      count = length-set c.loop-j.lists.items j c.push.new.self ∙ c.loop-j.invariant.count;
      so_far = λ k below. delivered_more c.loop-j.lists.items c.args.lists.now.items c.args.route.now c.loop-j.j-index j k c.push.new.self c.args.v c.requires.rises inside refl room
          (c.in_ok-push.ensures ∙ ap (λ l. l ++ c.args.v ∷ []) (c.index_mut.ensures.value ∙ get_or_default c.loop-j.lists.items j c.index_mut.result.now [] room))
          (c.loop-j.invariant.so_far k (omega (arith, length-set c.loop-j.lists.items j c.push.new.self, below)));
    }
