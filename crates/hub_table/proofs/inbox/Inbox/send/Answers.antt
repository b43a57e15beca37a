use Rattle.std.proofs.Common.{◌≡◌, ◌<◌, ◌∙◌, false, length, get_or, ap, arith}
use Rattle.std.proofs.lemmas.List.{get_or_default}
use Rattle.px_base.specs.Values.{place_of}
use Rattle.hub_table.specs.Slots.{is_filled, no_value}
use Rattle.hub_table.proofs.Mails.{inbox_sent_at, mail_sent_at, room_to_fill}
use Rattle.hub_table.proofs.inbox.Inbox.send.Goals as goal

pub add_if-requires : goal.add_if-requires
add_if-requires c is =
    let inside : c.in-Some.at < length c.self.inside.places = c.in-Some.ensures.some.1 in
    let slot : c.index-slot.result.now ≡ get_or c.self.inside.slots.items c.in-Some.at no_value = c.index-slot.ensures ∙ get_or_default c.self.inside.slots.items c.in-Some.at _ no_value (omega (arith, inside, c.self.invariant.size)) in
    let empty : is_filled c.self.inside.slots.items c.in-Some.at ≡ false = grind (arith, slot, is, c.is_free.ensures) in
    omega (arith, room_to_fill c.self.inside.places c.self.inside.slots.items c.self.inside.used.items _ c.in-Some.at c.self.invariant inside empty)

pub invariant_of-self : goal.invariant_of-self
invariant_of-self c =
    let inside : c.in-Some.at < length c.self.inside.places = c.in-Some.ensures.some.1 in
    let slot : c.index-slot.result.now ≡ get_or c.self.inside.slots.items c.in-Some.at no_value = c.index-slot.ensures ∙ get_or_default c.self.inside.slots.items c.in-Some.at _ no_value (omega (arith, inside, c.self.invariant.size)) in
    inbox_sent_at c.self.inside.places c.self.inside.slots.items c.self.inside.used.items c.add_if.new.used.items _ _ c.in-Some.at c.combined.result c.index-slot.result.now c.is_free.result
    c.self.invariant inside slot c.is_free.ensures c.add_if.ensures.items c.add_if.ensures.room

pub returns-in-Some : goal.returns-in-Some
returns-in-Some c =
    let inside : c.in-Some.at < length c.self.inside.places = c.in-Some.ensures.some.1 in
    let place : c.in-Some.at ≡ place_of c.self.inside.places c.args.vertex = c.in-Some.ensures.some.0 in
    let slot : c.index-slot.result.now ≡ get_or c.self.inside.slots.items c.in-Some.at no_value = c.index-slot.ensures ∙ get_or_default c.self.inside.slots.items c.in-Some.at _ no_value (omega (arith, inside, c.self.invariant.size)) in
    rw (← c.self.view_is, c.combined.ensures)
    (ap (λ us. record { vertices = c.self.inside.places; mail = us })
    (mail_sent_at c.args.counting c.self.inside.places c.self.inside.slots.items c.in-Some.at c.args.vertex c.args.value c.index-slot.result.now c.self.invariant.rising c.self.invariant.size place inside slot))
