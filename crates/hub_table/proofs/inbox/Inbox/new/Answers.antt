use Rattle.std.proofs.Common.{◌≡◌, ◌≤◌, length, replicate, refl, arith}
use Rattle.std.specs.Vec.{vec_capacity}
use Rattle.hub_table.specs.Slots.{no_value}
use Rattle.hub_table.proofs.Mails.{inbox_made, mail_made}
use Rattle.hub_table.proofs.inbox.Inbox.new.Goals as goal

pub invariant_of-result : goal.invariant_of-result
invariant_of-result c = let slots : c.in_ok-slots.slots.items ≡ replicate (length c.args.places) no_value = grind (arith, c.in_ok-slots.ensures.items, c.len-count.ensures.count) in
    let room : length c.args.places ≤ vec_capacity c.in_ok-used.used = omega (arith, c.in_ok-used.ensures.capacity, c.len-count.ensures.count) in
    rw (slots, c.in_ok-used.ensures.items) (inbox_made c.args.places _ c.len-count.ensures.rising c.len-count.ensures.few room)

pub returns : goal.returns
returns c = let slots : c.in_ok-slots.slots.items ≡ replicate (length c.args.places) no_value = grind (arith, c.in_ok-slots.ensures.items, c.len-count.ensures.count) in
    rw (slots, mail_made c.args.places (length c.args.places)) refl
