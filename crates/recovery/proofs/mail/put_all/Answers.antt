use Rattle.std.proofs.Common.{◌∙◌, [], ◌∷◌, take, get_or, ap, sym, subst}
use Rattle.px_base.specs.declared.wire.Update.{Update}
use Rattle.hub_terms.specs.Inboxes.{InboxesState, with_updates}
use Rattle.recovery.specs.Keeping.{AreInboxesOf}
use Rattle.recovery.proofs.Sent.{no_updates, updates_more, inboxes_more}
use Rattle.recovery.proofs.mail.put_all.Goals as goal

pub loop-update-init : goal.loop-update-init
loop-update-init c = sym (no_updates c.args.inboxes.now)

pub put_one-requires-clause-inboxes : goal.put_one-requires-clause-inboxes
put_one-requires-clause-inboxes c = subst (AreInboxesOf c.args.routes.now c.args.counting) (sym c.loop-update.invariant)
    (inboxes_more c.args.routes.now c.args.counting c.args.inboxes.now (take c.loop-update.update-index c.args.updates.now) c.requires.inboxes)

pub loop-update-preserved : goal.loop-update-preserved
loop-update-preserved c =
    let none : Update = record { vertex = 0; value = 0 } in
    c.put_one.ensures
    ∙ ap (λ (t : InboxesState). with_updates t (get_or c.args.updates.now c.loop-update.update-index none ∷ [])) c.loop-update.invariant
    ∙ updates_more c.args.inboxes.now c.args.updates.now c.loop-update.update-index none c.loop-update-test.true
