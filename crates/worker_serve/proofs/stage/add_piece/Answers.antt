use Rattle.std.proofs.Common.{ap, Err}
use Rattle.worker_serve.proofs.Staging.{refuse_piece}
use Rattle.worker_serve.proofs.stage.add_piece.Goals as goal

pub returns-in-Err-OutOfPlace-clause-refused : goal.returns-in-Err-OutOfPlace-clause-refused
returns-in-Err-OutOfPlace-clause-refused c = λ frames loading _. refuse_piece c.args.load frames c.args.frame loading c.requires.not_ready (c.in-Err-OutOfPlace.ensures.refused (ap Err c.in-Err-OutOfPlace.field-0-is))
