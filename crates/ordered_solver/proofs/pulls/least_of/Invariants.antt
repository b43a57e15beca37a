use Rattle.std.proofs.Common.{◌≡◌, take}
use Rattle.px_base.specs.Rules.{edge_values, least}
use Rattle.ordered_solver.proofs.pulls.least_of.Given as goal

-- the best so far is what the reads so far give
abbrev pub invariant-loop-k : goal.invariant-loop-k
invariant-loop-k l = l.best ≡ least l.start (edge_values l.along l.values (take l.k l.row))
