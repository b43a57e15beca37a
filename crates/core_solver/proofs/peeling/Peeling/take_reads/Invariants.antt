use Rattle.std.proofs.Common.{◌≡◌, drop, length}
use Rattle.core_solver.specs.Peelings.{HaveEnough, IsPeeling, work_left}
use Rattle.core_solver.proofs.peeling.Peeling.take_reads.Given as goal

-- the reads that are left are those from here on
abbrev pub invariant-loop-k : goal.invariant-loop-k
invariant-loop-k l = record {
  peeling : IsPeeling l.needed l.rows (drop l.k l.row) l.self;
  enough : HaveEnough l.needed (length l.rows) l.self;
  work : work_left l.self ≡ work_left l.initial.self;
}
