use Rattle.std.proofs.Common.{◌≤◌, length, take}
use Rattle.std.specs.Prelude.{All}
use Rattle.worker_world.proofs.stamps.longest.Given as goal

-- no row so far is longer
abbrev pub invariant-loop-k : goal.invariant-loop-k
invariant-loop-k l = All (λ row. length row ≤ l.most) (take l.k l.part.rows)
