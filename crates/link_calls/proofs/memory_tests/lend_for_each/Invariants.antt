use Rattle.std.proofs.Common.{◌≡◌, false}
use Rattle.link_calls.proofs.memory_tests.lend_for_each.Given as goal

abbrev pub invariant-loop-rows : goal.invariant-loop-rows
invariant-loop-rows g l = l.nursery.nursery.lent ≡ false
