use Rattle.std.proofs.Common.{◌≡◌, ◌∙◌, arith, ap, sym}
use Rattle.px_base.specs.Values.{by_position}
use Rattle.memory_nursery.specs.States.{NurseryState, new_spawner_state, next_mark}
use Rattle.memory_nursery.specs.Views.{nursery_view}
use Rattle.memory_nursery.proofs.Opening.{are_lent}
use Rattle.memory_nursery.proofs.mem_nursery.MemNurseryNursery.lend.Goals as goal

pub returns-clause-ok : goal.returns-clause-ok
returns-clause-ok c =
    let mark : c.next_mark-mark.result ≡ next_mark (nursery_view c.self.inside) = c.next_mark-mark.ensures ∙ ap next_mark (sym c.self.view_is) in
    let all : c.in_ok-all.all.items ≡ by_position c.args.count (new_spawner_state (nursery_view c.self.inside)) = c.in_ok-all.ensures ∙ ap (λ (n : NurseryState). by_position c.args.count (new_spawner_state n)) (sym c.self.view_is) in
    rw (mark, c.reserve.ensures.items, ← c.self.view_is) (are_lent (nursery_view c.self.inside) c.self.invariant.keeps _ c.args.count c.in_ok-all.all.items (omega (arith, c.in_ok-reserve.ensures.ok)) all)
