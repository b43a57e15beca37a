use Rattle.std.proofs.Common.{◌≡◌, length}
use Rattle.hub_calls.proofs.member_tests.assert_left.Given as goal

-- there are two workers
abbrev pub invariant-loop-row : goal.invariant-loop-row
invariant-loop-row g l = length l.members.members ≡ 2
