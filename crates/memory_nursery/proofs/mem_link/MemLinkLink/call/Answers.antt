use Rattle.std.proofs.Common.{◌≡◌, ◌∙◌, false, sym}
use Rattle.memory_nursery.specs.Scripts.{is_to_end}
use Rattle.memory_nursery.specs.Views.{link_view}
use Rattle.memory_nursery.proofs.Ending.{not_to_end}
use Rattle.memory_nursery.proofs.mem_link.MemLinkLink.call.Goals as goal

pub returns-in-Ok-clause-scripted : goal.returns-in-Ok-clause-scripted
returns-in-Ok-clause-scripted g c =
    let living : is_to_end c.args.self.now c.args.given.order ≡ false =
    not_to_end (link_view c.self.inside) c.args.self.now _ _ c.order-order.result.now c.args.given.order c.some_comes.result c.self.view_is
    (c.as_slice.ensures.value ∙ c.self.invariant.scripted) c.next_count.ensures c.order-order.ensures.order c.some_comes.ensures c.if-some_comes.false in
    (λ e. absurd (cc e), λ ends. absurd (cc (sym living ∙ ends)))

pub returns-clause-scripted : goal.returns-clause-scripted
returns-clause-scripted g c =
    let living : is_to_end c.args.self.now c.args.given.order ≡ false =
    not_to_end (link_view c.self.inside) c.args.self.now _ _ c.order-order.result.now c.args.given.order c.some_comes.result c.self.view_is
    (c.as_slice.ensures.value ∙ c.self.invariant.scripted) c.next_count.ensures c.order-order.ensures.order c.some_comes.ensures c.if-some_comes.false in
    (λ e. absurd (cc e), λ ends. absurd (cc (sym living ∙ ends)))
