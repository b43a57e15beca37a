use Rattle.std.proofs.Common.{arith}
use Rattle.command_ends.proofs.Growing.{on_any_err, prefix_of_all}
use Rattle.command_ends.proofs.pieces.put_pieces.Goals as goal

pub returns-in_err-put_all-clause-err : goal.returns-in_err-put_all-clause-err
returns-in_err-put_all-clause-err g c = on_any_err c.from_residual.result
    (prefix_of_all (λ piece. piece.now) _ c.args.pieces.now c.loop-piece.piece-index (g.K.Sink.written c.args.sink.now) (g.K.Sink.written c.loop-piece.sink) (g.K.Sink.written c.put_all.new.sink)
    (omega arith) c.loop-piece.invariant.so_far c.in_err-put_all.ensures.err)
