use Rattle.px_base.specs.declared.wire.Order.TheVariants.{Step}
use Rattle.worker_world.specs.Views.{values_of}
use Rattle.worker_world.proofs.Fitting.{answered_fits}
use Rattle.worker_world.proofs.value_world.ValueWorld.advance.Goals as goal

pub returns-clause-fits : goal.returns-clause-fits
returns-clause-fits c =
    answered_fits (values_of c.self.inside) (Step c.args.epoch c.args.round c.args.updates.now) c.renew.new.self c.renew.result c.self.invariant.world (rw (← c.self.view_is) at c.renew.ensures.ok)
