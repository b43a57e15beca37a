use Rattle.std.proofs.Common.{◌≤◌}
use Rattle.worker_world.proofs.steps.many_changed.Given as goal

abbrev pub invariant-loop-k : goal.invariant-loop-k
invariant-loop-k l = l.count ≤ l.k
