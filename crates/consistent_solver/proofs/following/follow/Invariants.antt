use Rattle.std.proofs.Common.{◌+◌, length}
use Rattle.std.specs.Prelude.{sum}
use Rattle.consistent_solver.specs.Sweeps.{AreTold, IsLowered, IsWaitingList}
use Rattle.consistent_solver.proofs.following.follow.Given as goal

-- the list so far, where only readers of vertices that wait have yet to be told
abbrev pub invariant-loop-v : goal.invariant-loop-v
invariant-loop-v l = record {
  lowered : IsLowered l.core l.rows l.initial.values l.values;
  list : IsWaitingList (length l.rows) l.waiting;
  told : AreTold l.core l.rows l.waiting.marks.items l.values;
}

-- who is told waits no longer, and who waits anew has fallen
abbrev pub decreases-loop-v : goal.decreases-loop-v
decreases-loop-v l = sum l.values + length l.waiting.queue.items
