use Rattle.std.proofs.Common.{◌+◌, ◌≤◌, length}
use Rattle.std.specs.Prelude.{sum}
use Rattle.consistent_solver.specs.Sweeps.{HasTold, IsWaitingList}
use Rattle.consistent_solver.proofs.following.tell.Given as goal

-- the readers so far are told
abbrev pub invariant-loop-k : goal.invariant-loop-k
invariant-loop-k l = record {
  told : HasTold l.core l.value l.readers l.k l.initial.values l.values l.initial.waiting.marks.items l.waiting.marks.items;
  list : IsWaitingList (length l.initial.values) l.waiting;
  falls : sum l.values + length l.waiting.queue.items ≤ sum l.initial.values + length l.initial.waiting.queue.items;
}
