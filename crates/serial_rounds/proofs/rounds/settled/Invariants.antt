use Rattle.serial_rounds.proofs.Ending.{work_left}
use Rattle.serial_rounds.proofs.InStep.{AreInStep}
use Rattle.serial_rounds.proofs.rounds.settled.Given as goal

-- the worlds and the inboxes are in step
abbrev pub invariant-loop-inboxes : goal.invariant-loop-inboxes
invariant-loop-inboxes g l = AreInStep l.fn.core l.fn.graph.rows l.starts l.cuts.ends l.worlds.items l.inboxes.items

abbrev pub decreases-loop-inboxes : goal.decreases-loop-inboxes
decreases-loop-inboxes g l = work_left l.worlds.items
