use Rattle.std.proofs.Common.{refl, length}
use Rattle.hub_table.specs.Slots.{is_filled}
use Rattle.hub_table.proofs.Mails.{filled_listed, inbox_emptied, mail_none}
use Rattle.list_laws.proofs.Sums.{listed_inside}
use Rattle.hub_table.proofs.inbox.Inbox.clear.Goals as goal

pub empty_at-requires-clause-inside : goal.empty_at-requires-clause-inside
empty_at-requires-clause-inside c = rw c.deref.ensures.value (listed_inside (length c.self.inside.slots.items) (is_filled c.self.inside.slots.items) c.self.inside.used.items c.self.invariant.lists)

pub empty_at-requires-clause-all : goal.empty_at-requires-clause-all
empty_at-requires-clause-all c = rw c.deref.ensures.value (filled_listed c.self.inside.slots.items c.self.inside.used.items c.self.invariant.lists)

pub invariant_of-self : goal.invariant_of-self
invariant_of-self c = rw (c.clear.ensures.items, c.clear.ensures.capacity)
    (inbox_emptied c.self.inside.places c.self.inside.slots.items c.empty_at.new.slots.items c.self.inside.used.items _ c.self.invariant c.empty_at.ensures.size c.empty_at.ensures.none)

pub returns : goal.returns
returns c = rw (← c.self.view_is, mail_none c.self.inside.places c.empty_at.new.slots.items c.empty_at.ensures.none) refl
