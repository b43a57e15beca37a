use Rattle.std.proofs.Common.{rules, arith, length}
use Rattle.hub_table.specs.Slots.{is_filled}
use Rattle.hub_table.proofs.Mails.{mail_length}
use Rattle.list_laws.proofs.Sums.{listed_few}
use Rattle.hub_table.proofs.inbox.Inbox.len.Goals as goal

pub overflow_cast-result : goal.overflow_cast-result
overflow_cast-result c = omega (arith, c.len.ensures, c.self.invariant.few, c.self.invariant.size, listed_few (length c.self.inside.slots.items) (is_filled c.self.inside.slots.items) c.self.inside.used.items c.self.invariant.lists)

pub returns : goal.returns
returns c = rw (← c.self.view_is) (rw (← mail_length c.self.inside.places c.self.inside.slots.items c.self.inside.used.items c.self.invariant.size c.self.invariant.lists) (search rules))
