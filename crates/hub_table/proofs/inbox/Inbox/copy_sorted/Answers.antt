use Rattle.std.proofs.Common.{◌≤◌, ◌+◌, ap, sym, subst, arith, length}
use Rattle.std.specs.Vec.{vec_len, vec_capacity}
use Rattle.hub_table.specs.Slots.{InboxState, is_filled}
use Rattle.list_laws.proofs.Ordered.{reordered}
use Rattle.hub_table.proofs.Mails.{inbox_reordered, mail_length, mail_sorted}
use Rattle.list_laws.proofs.Sums.{listed_inside}
use Rattle.hub_table.proofs.inbox.Inbox.copy_sorted.Goals as goal

pub copy_used-requires-clause-places : goal.copy_used-requires-clause-places
copy_used-requires-clause-places c =
    let ss = c.self.inside.slots.items in
    let inside = listed_inside (length ss) (is_filled ss) c.sort_unstable.new.self.items (reordered (length ss) (is_filled ss) c.self.inside.used.items c.sort_unstable.new.self.items c.sort_unstable.ensures.permutation c.self.invariant.lists) in
    rw c.deref.ensures.value (λ k d below. omega (arith, inside k d below, c.self.invariant.size))

pub copy_used-requires-clause-slots : goal.copy_used-requires-clause-slots
copy_used-requires-clause-slots c =
    let ss = c.self.inside.slots.items in
    let inside = listed_inside (length ss) (is_filled ss) c.sort_unstable.new.self.items (reordered (length ss) (is_filled ss) c.self.inside.used.items c.sort_unstable.new.self.items c.sort_unstable.ensures.permutation c.self.invariant.lists) in
    rw (c.deref.ensures.value, c.deref-2.ensures.value) inside

pub copy_used-requires-clause-room : goal.copy_used-requires-clause-room
copy_used-requires-clause-room c =
    let ss = c.self.inside.slots.items in
    let room = subst (λ (b : InboxState). vec_len c.args.out.now + length b.mail ≤ vec_capacity c.args.out.now) (sym c.self.view_is) c.requires in
    let many = mail_length c.self.inside.places ss c.sort_unstable.new.self.items c.self.invariant.size (reordered (length ss) (is_filled ss) c.self.inside.used.items c.sort_unstable.new.self.items c.sort_unstable.ensures.permutation c.self.invariant.lists) in
    omega (arith, room, many, ap length c.deref.ensures.value)

pub invariant_of-self : goal.invariant_of-self
invariant_of-self c = inbox_reordered c.self.inside.places c.self.inside.slots.items c.self.inside.used.items c.sort_unstable.new.self.items _ _ c.self.invariant c.sort_unstable.ensures.permutation c.sort_unstable.ensures.capacity

pub returns-clause-given : goal.returns-clause-given
returns-clause-given c =
    let ss = c.self.inside.slots.items in
    let lists = reordered (length ss) (is_filled ss) c.self.inside.used.items c.sort_unstable.new.self.items c.sort_unstable.ensures.permutation c.self.invariant.lists in
    rw (← c.self.view_is, ← mail_sorted c.self.inside.places ss c.sort_unstable.new.self.items c.self.invariant.size lists c.sort_unstable.ensures.sorted)
    (rw (c.deref.ensures.value, c.deref-2.ensures.value) at c.copy_used.ensures)
