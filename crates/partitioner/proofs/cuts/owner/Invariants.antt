use Rattle.std.proofs.Common.{ℕ, ◌<◌, ◌≤◌, get_or}
use Rattle.partitioner.proofs.cuts.owner.Given as goal

-- each cut so far is at most the position
abbrev pub invariant-loop-i : goal.invariant-loop-i
invariant-loop-i l = (k : ℕ) → k < l.i → get_or l.ends k 0 ≤ l.pos
