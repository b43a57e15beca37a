use Rattle.consistent_solver.proofs.Sweeping.{swept_settled}
use Rattle.consistent_solver.proofs.Telling.{settled_more}
use Rattle.consistent_solver.proofs.following.settle.Goals as goal

pub returns-in_ok-follow : goal.returns-in_ok-follow
returns-in_ok-follow c =
    settled_more c.args.core.now c.args.rows.now c.args.values.now c.sweep_some.new.values c.follow-then-sweep_some.new.values c.sweep_some.ensures.lowered c.in_ok-follow.ensures

pub returns-else-sweep_some : goal.returns-else-sweep_some
returns-else-sweep_some c =
    swept_settled c.args.core.now c.args.rows.now c.args.values.now c.sweep_some.new.values c.sweep_some.new.fell (rw c.if-sweep_some.false at c.sweep_some.ensures)
