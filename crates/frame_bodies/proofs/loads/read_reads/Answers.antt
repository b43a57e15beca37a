use Rattle.std.proofs.Common.{arith}
use Rattle.frame_bodies.proofs.Candidates.{no_reads}
use Rattle.frame_bodies.proofs.loads.read_reads.Goals as goal

pub returns-then-body-ne0 : goal.returns-then-body-ne0
returns-then-body-ne0 c = no_reads c.args.body.now (λ even. omega arith)
