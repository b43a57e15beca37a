use Rattle.std.proofs.Common.{ℕ, ◌<◌, length}
use Rattle.std.specs.Prelude.{All, Contains}
use Rattle.consistent_solver.specs.Sweeps.{IsMarked}
use Rattle.consistent_solver.proofs.waiting.Waiting.of.Given as goal

-- the marked vertices so far wait
abbrev pub invariant-loop-v : goal.invariant-loop-v
invariant-loop-v l = record {
  vertices : All (λ u. u < length l.fn.marks.items) l.queue.items;
  listed : (u : ℕ) → u < l.v → IsMarked l.fn.marks.items u → Contains l.queue.items u;
}
