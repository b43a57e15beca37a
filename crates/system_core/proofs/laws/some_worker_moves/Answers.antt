use Rattle.std.proofs.Common.{arith}
use Rattle.hub_laws.proofs.Stuck.{never_stuck}
use Rattle.system_core.proofs.laws.some_worker_moves.Goals as goal

pub returns : goal.returns
returns c = λ s kept live idle free. never_stuck s.hub kept.in_step.hub (omega (arith, kept.in_step.job.cuts.cut.some_part)) live idle free
