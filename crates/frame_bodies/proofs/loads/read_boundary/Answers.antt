use Rattle.std.proofs.Common.{arith}
use Rattle.frame_bodies.proofs.Candidates.{no_boundary}
use Rattle.frame_bodies.proofs.loads.read_boundary.Goals as goal

pub returns-then-body-ne0 : goal.returns-then-body-ne0
returns-then-body-ne0 c = no_boundary c.args.body.now (λ even. omega arith)
