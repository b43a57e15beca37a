use Rattle.std.proofs.Common.{subst}
use Rattle.px_base.specs.declared.wire.Order.TheVariants.{Step}
use Rattle.count_world.specs.Kept.{KeepsCounts}
use Rattle.count_world.proofs.Fitting.{has_frame}
use Rattle.count_world.proofs.world.CountWorld.advance.Goals as goal

pub returns-in-Ok-clause-fits : goal.returns-in-Ok-clause-fits
returns-in-Ok-clause-fits c =
    has_frame c.args.self.now (Step c.args.epoch c.args.round c.args.updates.now) (record { world = c.count.new.self; answer = c.in-Ok.answer }) (subst KeepsCounts c.self.view_is c.self.invariant.world) c.in-Ok.ensures.ok
