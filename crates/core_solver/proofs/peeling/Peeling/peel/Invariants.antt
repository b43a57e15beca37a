use Rattle.std.proofs.Common.{[], length}
use Rattle.core_solver.specs.Peelings.{HaveEnough, IsPeeling, work_left}
use Rattle.core_solver.proofs.peeling.Peeling.peel.Given as goal

-- no vertex is half peeled off, and each living one has enough
abbrev pub invariant-loop-v : goal.invariant-loop-v
invariant-loop-v l = record {
  peeling : IsPeeling l.needed l.rows [] l.self;
  enough : HaveEnough l.needed (length l.rows) l.self;
}

abbrev pub decreases-loop-v : goal.decreases-loop-v
decreases-loop-v l = work_left l.self
