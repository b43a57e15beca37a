use Rattle.std.proofs.Common.{◌-◌, length}
use Rattle.worker_serve.proofs.Stepping.{IsSteppedSoFar}
use Rattle.worker_serve.proofs.session.Session.take_all.Given as goal

-- each frame so far was taken, and what it was answered is appended
abbrev pub invariant-loop-end : goal.invariant-loop-end
invariant-loop-end g l = IsSteppedSoFar l.fn.self l.self l.fn.out.items l.out.items

abbrev pub decreases-loop-end : goal.decreases-loop-end
decreases-loop-end g l = length l.self.bytes - l.self.took
