use Rattle.std.proofs.Common.{ℕ, ◌<◌, ◌++◌, ◌∷◌, [], length, get_or, refl, ap, ◌∙◌, arith}
use Rattle.std.proofs.lemmas.List.{length-set, get_or_default}
use Rattle.list_laws.proofs.Delivered.{delivered_more}
use Rattle.serial_rounds.proofs.inboxes.deliver_update.Goals as goal

pub loop-j-preserved : goal.loop-j-preserved
loop-j-preserved c =
    let j : ℕ = get_or c.args.route.now c.loop-j.j-index 0 in
    let inside : c.loop-j.j-index < length c.args.route.now = omega arith in
    let room : j < length c.loop-j.inboxes = omega (arith, c.requires.within c.loop-j.j-index 0 inside, c.loop-j.invariant.count) in
    record {
      count = length-set c.loop-j.inboxes j c.push.new.self ∙ c.loop-j.invariant.count;
      so_far = λ k below. delivered_more c.loop-j.inboxes c.args.inboxes.now c.args.route.now c.loop-j.j-index j k c.push.new.self c.args.update c.requires.rises inside refl room
          (c.in_ok-push.ensures ∙ ap (λ l. l ++ c.args.update ∷ []) (get_or_default c.loop-j.inboxes j c.index-inboxes-j.result [] room))
          (c.loop-j.invariant.so_far k (omega (arith, length-set c.loop-j.inboxes j c.push.new.self, below)));
    }
