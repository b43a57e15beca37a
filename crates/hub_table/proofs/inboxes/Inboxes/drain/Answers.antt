use Rattle.std.proofs.Common.{◌<◌, length, sym, subst, arith}
use Rattle.px_base.specs.Parts.{part_count}
use Rattle.hub_terms.specs.Inboxes.{InboxesState}
use Rattle.hub_table.specs.Tables.{mails}
use Rattle.hub_table.proofs.Fitting.{box_each, drained_fits}
use Rattle.hub_table.proofs.inboxes.Inboxes.drain.Goals as goal

pub invariant_of-self : goal.invariant_of-self
invariant_of-self c =
    let low : c.args.worker < part_count c.self.inside.cuts.ends = subst (λ (t : InboxesState). c.args.worker < part_count t.cuts) (sym c.self.view_is) c.requires.inside in
    let inside : c.args.worker < length (mails c.self.inside.inboxes.items) = omega (arith, low, box_each c.self.inside.inboxes.items _ _ _ c.self.invariant.tables) in
    let state : InboxesState = record { cuts = c.self.inside.cuts.ends; routes = c.self.inside.routes.to; counting = c.self.inside.counting; boxes = mails c.self.inside.inboxes.items } in
    drained_fits state _ _ _ c.args.worker c.self.invariant inside c.drain_at.ensures.mails c.drain_at.ensures.tables
