use Rattle.std.proofs.Common.{◌^◌, ◌<◌, ◌∙◌, ap, arith}
use Rattle.hub_terms.specs.Inboxes.{InboxesState}
use Rattle.recovery.proofs.Sent.{none_sent, next_routed, next_sent, all_sent}
use Rattle.recovery.proofs.mail.put_along.Goals as goal

pub loop-rest-init : goal.loop-rest-init
loop-rest-init c = none_sent c.args.inboxes.now c.args.update c.args.word c.ranges.word.fits

pub put-requires-clause-plain : goal.put-requires-clause-plain
put-requires-clause-plain c = ap (λ (t : InboxesState). t.counting) c.loop-rest.invariant.same ∙ c.requires.plain

pub put-requires-clause-mirrors : goal.put-requires-clause-mirrors
put-requires-clause-mirrors c =
    let some : 0 < c.loop-rest.rest = omega arith in
    next_routed c.args.inboxes.now c.loop-rest.inboxes c.args.update c.args.word c.loop-rest.rest some c.requires.route c.loop-rest.invariant

pub loop-rest-preserved : goal.loop-rest-preserved
loop-rest-preserved c =
    let some : 0 < c.loop-rest.rest = omega arith in
    let fits : c.without_lowest-rest.result < 2 ^ 64 = omega (arith, c.without_lowest-rest.ensures.less, c.loop-rest.invariant.of.fits) in
    rw c.put.ensures (next_sent c.args.inboxes.now c.loop-rest.inboxes c.args.update c.args.word c.loop-rest.rest c.without_lowest-rest.result some fits c.without_lowest-rest.ensures.bits c.loop-rest.invariant)

pub returns : goal.returns
returns c = all_sent c.args.inboxes.now c.loop-rest.inboxes c.args.update c.args.word c.loop-rest.rest c.requires.plain c.requires.route (omega arith) c.loop-rest.invariant
