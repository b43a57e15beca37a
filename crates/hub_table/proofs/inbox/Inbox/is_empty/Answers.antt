use Rattle.std.proofs.Common.{rules}
use Rattle.hub_table.proofs.Mails.{mail_length}
use Rattle.hub_table.proofs.inbox.Inbox.is_empty.Goals as goal

pub returns : goal.returns
returns c = rw (← c.self.view_is) (rw (← mail_length c.self.inside.places c.self.inside.slots.items c.self.inside.used.items c.self.invariant.size c.self.invariant.lists) (search rules))
