use Rattle.std.proofs.Common.{arith}
use Rattle.frame_bodies.proofs.Candidates.{no_mirrors}
use Rattle.frame_bodies.proofs.loads.read_mirrors.Goals as goal

pub returns-then-body-ne0 : goal.returns-then-body-ne0
returns-then-body-ne0 c = no_mirrors c.args.body.now (λ even. omega arith)
