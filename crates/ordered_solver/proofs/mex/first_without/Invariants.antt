use Rattle.std.proofs.Common.{◌≡◌, ℕ, ◌<◌, true, get_or}
use Rattle.std.specs.Prelude.{◌==◌}
use Rattle.ordered_solver.proofs.mex.first_without.Given as goal

-- each place so far has the stamp
abbrev pub invariant-loop-place : goal.invariant-loop-place
invariant-loop-place l = (k : ℕ) → k < l.place → (get_or l.stamps k 0 == l.stamp) ≡ true
