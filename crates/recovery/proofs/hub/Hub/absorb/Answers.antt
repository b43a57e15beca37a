use Rattle.px_base.specs.declared.wire.Answer.TheVariants.{Stepped, Reported}
use Rattle.hub_terms.specs.Hubs.{HubState}
use Rattle.recovery.proofs.Turns.{answered, asked_step, sent_below, asked_report, reported_size, stepped_kept, reported_kept}
use Rattle.recovery.proofs.hub.Hub.absorb.Goals as goal

pub put_current-requires-clause-below : goal.put_current-requires-clause-below
put_current-requires-clause-below c =
    let hub : HubState = record { members = c.self.inside.members; inboxes = c.self.inside.inboxes; halt = c.self.inside.halt; orders = c.self.inside.orders; reported = c.self.inside.reported } in
    rw c.as_slice.ensures (sent_below _ _ _ _ _ _ hub c.self.invariant c.args.i c.in-Stepped.epoch c.in-Stepped.round c.in-Stepped.changed c.in-Stepped.updates (answered hub c.args.self.now c.self.view_is c.args.i c.args.answer.now (Stepped c.in-Stepped.epoch c.in-Stepped.round c.in-Stepped.changed c.in-Stepped.updates) c.in-Stepped.is c.requires.inside c.requires.asked c.requires.values c.requires.right))

pub stepped-requires-clause-asked : goal.stepped-requires-clause-asked
stepped-requires-clause-asked c =
    let hub : HubState = record { members = c.self.inside.members; inboxes = c.self.inside.inboxes; halt = c.self.inside.halt; orders = c.self.inside.orders; reported = c.self.inside.reported } in
    asked_step _ _ _ _ _ _ hub c.self.invariant c.args.i c.in-Stepped.epoch c.in-Stepped.round c.in-Stepped.changed c.in-Stepped.updates (answered hub c.args.self.now c.self.view_is c.args.i c.args.answer.now (Stepped c.in-Stepped.epoch c.in-Stepped.round c.in-Stepped.changed c.in-Stepped.updates) c.in-Stepped.is c.requires.inside c.requires.asked c.requires.values c.requires.right)

pub invariant_of-self : goal.invariant_of-self
invariant_of-self c =
    let hub : HubState = record { members = c.self.inside.members; inboxes = c.self.inside.inboxes; halt = c.self.inside.halt; orders = c.self.inside.orders; reported = c.self.inside.reported } in
    rw (c.no_header.ensures, c.stepped.ensures, c.put_current.ensures, c.drop_order.ensures, c.as_slice.ensures, c.epoch.ensures)
    (stepped_kept _ _ _ _ _ _ hub c.self.invariant c.args.i c.in-Stepped.epoch c.in-Stepped.round c.in-Stepped.changed c.in-Stepped.updates (answered hub c.args.self.now c.self.view_is c.args.i c.args.answer.now (Stepped c.in-Stepped.epoch c.in-Stepped.round c.in-Stepped.changed c.in-Stepped.updates) c.in-Stepped.is c.requires.inside c.requires.asked c.requires.values c.requires.right))

pub note_current-requires-clause-size : goal.note_current-requires-clause-size
note_current-requires-clause-size c =
    let hub : HubState = record { members = c.self.inside.members; inboxes = c.self.inside.inboxes; halt = c.self.inside.halt; orders = c.self.inside.orders; reported = c.self.inside.reported } in
    reported_size _ _ _ _ _ _ hub c.self.invariant c.args.i c.in-Reported.epoch c.in-Reported.values (answered hub c.args.self.now c.self.view_is c.args.i c.args.answer.now (Reported c.in-Reported.epoch c.in-Reported.values) c.in-Reported.is c.requires.inside c.requires.asked c.requires.values c.requires.right)

pub reported-requires-clause-asked : goal.reported-requires-clause-asked
reported-requires-clause-asked c =
    let hub : HubState = record { members = c.self.inside.members; inboxes = c.self.inside.inboxes; halt = c.self.inside.halt; orders = c.self.inside.orders; reported = c.self.inside.reported } in
    asked_report _ _ _ _ _ _ hub c.self.invariant c.args.i c.in-Reported.epoch c.in-Reported.values (answered hub c.args.self.now c.self.view_is c.args.i c.args.answer.now (Reported c.in-Reported.epoch c.in-Reported.values) c.in-Reported.is c.requires.inside c.requires.asked c.requires.values c.requires.right)

pub invariant_of-self-in-Reported : goal.invariant_of-self-in-Reported
invariant_of-self-in-Reported c =
    let hub : HubState = record { members = c.self.inside.members; inboxes = c.self.inside.inboxes; halt = c.self.inside.halt; orders = c.self.inside.orders; reported = c.self.inside.reported } in
    rw (c.no_header-in-Reported.ensures, c.note_current.ensures.flags, c.note_current.ensures.values, c.reported.ensures, c.drop_order-in-Reported.ensures, c.note_current.ensures.reported, c.epoch-in-Reported.ensures)
    (reported_kept _ _ _ _ _ _ hub c.self.invariant c.args.i c.in-Reported.epoch c.in-Reported.values (answered hub c.args.self.now c.self.view_is c.args.i c.args.answer.now (Reported c.in-Reported.epoch c.in-Reported.values) c.in-Reported.is c.requires.inside c.requires.asked c.requires.values c.requires.right))
