use Rattle.std.proofs.Common.{◌≡◌, ◌<◌, ◌∙◌, true, List, length, sym, ap, subst, arith}
use Rattle.px_base.specs.declared.wire.Update.{Update}
use Rattle.hub_terms.specs.Inboxes.{InboxesState}
use Rattle.hub_table.specs.Tables.{mails}
use Rattle.hub_table.proofs.Fitting.{box_each, sent_fits}
use Rattle.hub_table.proofs.Written.{added_is, owner_has}
use Rattle.hub_table.proofs.inboxes.Inboxes.add.Goals as goal

pub invariant_of-self : goal.invariant_of-self
invariant_of-self c =
    let state : InboxesState = record { cuts = c.self.inside.cuts.ends; routes = c.self.inside.routes.to; counting = c.self.inside.counting; boxes = mails c.self.inside.inboxes.items } in
    let counts : state.counting ≡ true = subst (λ (t : InboxesState). t.counting ≡ true) (sym c.self.view_is) c.requires.counts in
    let inside : c.owner_from-worker.result < length state.boxes = omega (arith, c.owner_from-worker.ensures.below, box_each c.self.inside.inboxes.items _ _ _ c.self.invariant.tables) in
    sent_fits state _ _ _ c.owner_from-worker.result (record { vertex = c.args.vertex; value = c.args.delta }) c.self.invariant inside (rw counts (owner_has c.self.inside.cuts.ends c.args.vertex c.owner_from-worker.result c.owner_from-worker.ensures)) c.requires.value (rw counts c.send_at.ensures.mails)
    c.send_at.ensures.tables

pub returns : goal.returns
returns c =
    let state : List (List Update) → InboxesState = λ boxes. record { cuts = c.self.inside.cuts.ends; routes = c.self.inside.routes.to; counting = c.self.inside.counting; boxes = boxes } in
    rw (← c.self.view_is)
    (ap state (c.send_at.ensures.mails ∙ added_is _ c.self.inside.cuts.ends (mails c.self.inside.inboxes.items) c.args.vertex c.owner_from-worker.result (record { vertex = c.args.vertex; value = c.args.delta })
    c.self.invariant.cut.cut (box_each c.self.inside.inboxes.items _ _ _ c.self.invariant.tables) c.owner_from-worker.ensures))
