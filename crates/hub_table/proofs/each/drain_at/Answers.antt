use Rattle.std.proofs.Common.{◌∙◌, ap}
use Rattle.hub_table.specs.Slots.{InboxState}
use Rattle.hub_table.proofs.Written.{written_mails, written_tables}
use Rattle.hub_table.proofs.each.drain_at.Goals as goal

pub returns-clause-mails : goal.returns-clause-mails
returns-clause-mails c = written_mails c.args.inboxes.now.items c.args.at c.drain.new.self _ (ap (λ (b : InboxState). b.mail) c.drain.ensures.emptied)

pub returns-clause-tables : goal.returns-clause-tables
returns-clause-tables c = written_tables c.args.inboxes.now.items c.args.at c.drain.new.self _ c.requires.inside (ap (λ (b : InboxState). b.vertices) c.drain.ensures.emptied ∙ ap (λ (b : InboxState). b.vertices) c.index_mut.ensures.value)
