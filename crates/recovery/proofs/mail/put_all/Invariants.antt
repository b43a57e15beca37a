-- The inboxes after the updates so far.
use Rattle.std.proofs.Common.{◌≡◌, take}
use Rattle.hub_terms.specs.Inboxes.{with_updates}
use Rattle.recovery.proofs.mail.put_all.Given as goal

abbrev pub invariant-loop-update : goal.invariant-loop-update
invariant-loop-update l = l.inboxes ≡ with_updates l.initial.inboxes (take l.update-index l.updates)
