use Rattle.std.proofs.Common.{◌≡◌, ℕ, ◌≤◌, ◌<◌, true, [], length}
use Rattle.px_base.specs.Values.{is_in}
use Rattle.core_solver.specs.Peelings.{HaveEnough, IsPeeling}
use Rattle.core_solver.proofs.peeling.Peeling.bury_short.Given as goal

-- the vertices so far are dead or have enough, and the others live
abbrev pub invariant-loop-v : goal.invariant-loop-v
invariant-loop-v l = record {
  peeling : IsPeeling l.needed l.rows [] l.self;
  enough : HaveEnough l.needed l.v l.self;
  living : (u : ℕ) → l.v ≤ u → u < length l.rows → is_in l.self.alive u ≡ true;
}
