use Rattle.std.proofs.Common.{◌≡◌, ◌<◌, ℕ, get_or}
use Rattle.worker_world.proofs.stamps.first_unstamped.Given as goal

-- each number so far has the stamp
abbrev pub invariant-loop-k : goal.invariant-loop-k
invariant-loop-k l = (j : ℕ) → j < l.k → get_or l.marks j 0 ≡ l.stamp
