use Rattle.phoenix_cli.proofs.Stopped.{plan_stops}
use Rattle.phoenix_cli.proofs.run.follow.Goals as goal

pub returns-in-Err-clause-run : goal.returns-in-Err-clause-run
returns-in-Err-clause-run g c = plan_stops c.args.plan c.in-Err.stop (g.S.Source.left c.args.source.now) (g.K.Sink.written c.args.sink.now) c.in-Err.is
    (rw c.in-Err.is at c.requires.decided)
