use Rattle.std.proofs.Common.{◌≡◌}
use Rattle.lock_tests.specs.Children.{counted}
use Rattle.lock_tests.proofs.each.count.Given as goal

-- the seat counted as often as it passed
abbrev pub invariant-loop-passage : goal.invariant-loop-passage
invariant-loop-passage g l = l.seat ≡ counted l.initial.seat l._passage
