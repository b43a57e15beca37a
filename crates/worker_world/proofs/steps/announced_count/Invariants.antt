use Rattle.std.proofs.Common.{◌≤◌}
use Rattle.worker_world.proofs.steps.announced_count.Given as goal

abbrev pub invariant-loop-v : goal.invariant-loop-v
invariant-loop-v l = l.count ≤ l.v-index
