use Rattle.std.proofs.Common.{◌≤◌, take}
use Rattle.std.specs.Prelude.{All}
use Rattle.worker_world.specs.Placed.{placed_items}
use Rattle.worker_world.specs.Stamped.{IsStamped}
use Rattle.worker_world.proofs.stamps.stamp_reads.Given as goal

-- the numbers of the reads so far have the stamp
abbrev pub invariant-loop-k : goal.invariant-loop-k
invariant-loop-k l = record {
  stamped : IsStamped l.stamp (placed_items l.core l.values (take l.k l.row)) l.marks;
  older : All (λ mark. mark ≤ l.stamp) l.marks;
}
