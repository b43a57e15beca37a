use Rattle.std.proofs.Common.{length, true}
use Rattle.consistent_solver.specs.Sweeps.{IsSwept}
use Rattle.consistent_solver.proofs.sweeps.sweep_some.Given as goal

-- what the sweeps so far made of the list
abbrev pub invariant-loop-turn : goal.invariant-loop-turn
invariant-loop-turn l = IsSwept l.core l.rows (length l.rows) l.initial.values l.values l.fell true
