use Rattle.std.proofs.Common.{take}
use Rattle.std.specs.Prelude.{All}
use Rattle.worker_world.specs.Due.{StaysDue, IsUpdateTold}
use Rattle.worker_world.proofs.telling.tell_of_updates.Given as goal

-- the readers of each mirror so far are told
abbrev pub invariant-loop-k : goal.invariant-loop-k
invariant-loop-k l = record {
  told : All (IsUpdateTold l.part l.readers l.due l.values) (take l.k l.updates);
  stays : StaysDue l.fn.due l.due;
}
