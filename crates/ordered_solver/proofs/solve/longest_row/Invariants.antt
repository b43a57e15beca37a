use Rattle.std.proofs.Common.{◌≤◌, length, take}
use Rattle.std.specs.Prelude.{All}
use Rattle.ordered_solver.proofs.solve.longest_row.Given as goal

-- no row so far is longer
abbrev pub invariant-loop-v : goal.invariant-loop-v
invariant-loop-v l = All (λ row. length row ≤ l.longest) (take l.v l.rows)
