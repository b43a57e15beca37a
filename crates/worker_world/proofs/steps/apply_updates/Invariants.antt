use Rattle.std.proofs.Common.{◌≡◌, ℕ, ◌<◌, length, take, get_or}
use Rattle.px_base.specs.ValueSteps.{newest_value}
use Rattle.worker_world.proofs.steps.apply_updates.Given as goal

-- each value is that of the updates so far
abbrev pub invariant-loop-k : goal.invariant-loop-k
invariant-loop-k l = (j : ℕ) → j < length l.mirrors → get_or l.values j 0 ≡ newest_value (take l.k l.updates) (get_or l.mirrors j 0) (get_or l.fn.values j 0)
