-- The workers whose bit isn't left have the update.
use Rattle.recovery.proofs.Sent.{AreSent}
use Rattle.recovery.proofs.mail.put_along.Given as goal

abbrev pub invariant-loop-rest : goal.invariant-loop-rest
invariant-loop-rest l = AreSent l.initial.inboxes l.update l.word l.rest l.inboxes

abbrev pub decreases-loop-rest : goal.decreases-loop-rest
decreases-loop-rest l = l.rest
