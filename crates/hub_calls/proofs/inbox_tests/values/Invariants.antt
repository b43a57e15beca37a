use Rattle.std.proofs.Common.{◌≡◌, false}
use Rattle.hub_calls.proofs.inbox_tests.values.Given as goal

-- the inboxes are of a program that doesn't count, and for these routes
abbrev pub invariant-loop-row : goal.invariant-loop-row
invariant-loop-row g l = (l.inboxes.counting ≡ false) × (l.inboxes.routes ≡ l.routes.to)
