use Rattle.worker_serve.proofs.Ends.{ends_well}
use Rattle.worker_serve.proofs.serving.serve.Goals as goal

pub returns-in-Ok-clause-complete : goal.returns-in-Ok-clause-complete
returns-in-Ok-clause-complete g c = λ all frames answers is are takes short.
    ends_well all frames answers (g.S.Source.left c.args.source.now) (g.S.Source.left c.serve_pieces.new.source) (g.K.Sink.written c.args.sink.now) (g.K.Sink.written c.serve_pieces.new.sink) c.serve_pieces.result c.serve_pieces.ensures.served is are takes short
