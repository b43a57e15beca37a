use Rattle.std.proofs.Common.{Err, ap}
use Rattle.phoenix_cli.proofs.Stopped.{solution_stops}
use Rattle.phoenix_cli.proofs.run.write_text.Goals as goal

pub returns-in-Err-clause-run : goal.returns-in-Err-clause-run
returns-in-Err-clause-run g c = solution_stops c.args.job.now c.in-Err.stop (g.S.Source.left c.args.source.now) (g.S.Source.left c.job_text.new.source) (g.K.Sink.written c.args.sink.now)
    (λ is. c.in-Err.ensures.unwritten (ap Err is)) c.in-Err.ensures.solution
