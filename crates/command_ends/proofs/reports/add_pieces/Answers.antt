use Rattle.std.proofs.Common.{flat_map}
use Rattle.command_ends.proofs.Growing.{line_added}
use Rattle.command_ends.proofs.reports.add_pieces.Goals as goal

pub returns-clause-line : goal.returns-clause-line
returns-clause-line g c = line_added (flat_map (λ piece. piece.now) c.args.pieces.now) (g.F.Sink.written c.args.faults.now) (g.F.Sink.written c.put_pieces.new.sink)
    (g.F.Sink.faults c.args.faults.now) (g.F.Sink.faults c.put_pieces.new.sink) (g.F.Sink.wants c.args.faults.now) (g.F.Sink.wants c.put_pieces.new.sink)
    c.put_pieces.result c.put_pieces.ensures.ok c.put_pieces.ensures.err c.put_pieces.ensures.failed c.put_pieces.ensures.wanted c.put_pieces.ensures.quiet c.put_pieces.ensures.spared
