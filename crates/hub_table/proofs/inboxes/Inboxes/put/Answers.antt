use Rattle.std.proofs.Common.{◌≡◌, ◌<◌, false, true, length, sym, subst, arith}
use Rattle.hub_terms.specs.Inboxes.{InboxesState, is_on_route}
use Rattle.hub_table.specs.Tables.{mails}
use Rattle.hub_table.proofs.Fitting.{box_each, sent_fits}
use Rattle.hub_table.proofs.inboxes.Inboxes.put.Goals as goal

pub invariant_of-self : goal.invariant_of-self
invariant_of-self c =
    let state : InboxesState = record { cuts = c.self.inside.cuts.ends; routes = c.self.inside.routes.to; counting = c.self.inside.counting; boxes = mails c.self.inside.inboxes.items } in
    let plain : state.counting ≡ false = subst (λ (t : InboxesState). t.counting ≡ false) (sym c.self.view_is) c.requires.plain in
    let mirrors : is_on_route state c.args.worker c.args.vertex ≡ true = subst (λ (t : InboxesState). is_on_route t c.args.worker c.args.vertex ≡ true) (sym c.self.view_is) c.requires.mirrors in
    let inside : c.args.worker < length state.boxes = omega (arith, c.self.invariant.inside c.args.vertex c.args.worker mirrors, box_each c.self.inside.inboxes.items _ _ _ c.self.invariant.tables) in
    sent_fits state _ _ _ c.args.worker (record { vertex = c.args.vertex; value = c.args.value }) c.self.invariant inside (rw plain mirrors) c.requires.value (rw plain c.send_at.ensures.mails) c.send_at.ensures.tables
