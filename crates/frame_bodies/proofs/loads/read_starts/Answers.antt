use Rattle.std.proofs.Common.{arith}
use Rattle.frame_bodies.proofs.Candidates.{no_starts}
use Rattle.frame_bodies.proofs.loads.read_starts.Goals as goal

pub returns-then-body-ne0 : goal.returns-then-body-ne0
returns-then-body-ne0 c = no_starts c.args.body.now (λ even. omega arith)
