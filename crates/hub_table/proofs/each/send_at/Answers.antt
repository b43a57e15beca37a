use Rattle.std.proofs.Common.{◌∙◌, ap, sym}
use Rattle.hub_terms.specs.Inboxes.{box_with}
use Rattle.hub_table.specs.Slots.{InboxState}
use Rattle.hub_table.proofs.Written.{mail_at, written_mails, written_tables}
use Rattle.hub_table.proofs.each.send_at.Goals as goal

pub returns-clause-mails : goal.returns-clause-mails
returns-clause-mails c = written_mails c.args.inboxes.now.items c.args.at c.send.new.self _
    (ap (λ (b : InboxState). b.mail) c.send.ensures
    ∙ ap (λ us. box_with c.args.counting (record { vertex = c.args.vertex; value = c.args.value }) us) (ap (λ (b : InboxState). b.mail) c.index_mut.ensures.value ∙ sym (mail_at c.args.inboxes.now.items c.args.at _ c.requires.inside)))

pub returns-clause-tables : goal.returns-clause-tables
returns-clause-tables c = written_tables c.args.inboxes.now.items c.args.at c.send.new.self _ c.requires.inside (ap (λ (b : InboxState). b.vertices) c.send.ensures ∙ ap (λ (b : InboxState). b.vertices) c.index_mut.ensures.value)
