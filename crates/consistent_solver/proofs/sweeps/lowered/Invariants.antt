use Rattle.std.proofs.Common.{◌≡◌, take}
use Rattle.px_base.specs.Rules.{least}
use Rattle.consistent_solver.specs.Sweeps.{core_edge_values}
use Rattle.consistent_solver.proofs.sweeps.lowered.Given as goal

-- the least of the reads so far
abbrev pub invariant-loop-k : goal.invariant-loop-k
invariant-loop-k l = l.best ≡ least l.own (core_edge_values l.core l.values (take l.k l.row))
