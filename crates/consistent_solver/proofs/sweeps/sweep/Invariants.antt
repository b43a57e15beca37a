use Rattle.consistent_solver.specs.Sweeps.{IsSwept}
use Rattle.consistent_solver.proofs.sweeps.sweep.Given as goal

-- what the vertices so far made of the list
abbrev pub invariant-loop-v : goal.invariant-loop-v
invariant-loop-v l = IsSwept l.core l.rows l.v l.initial.values l.values l.fell l.changed
