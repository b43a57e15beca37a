use Rattle.std.proofs.Common.{subst}
use Rattle.std.proofs.lemmas.Result.{err_from_is_err_and}
use Rattle.edge_reader.specs.Readings.{IsReadingOf}
use Rattle.edge_reader.specs.Lists.{newline_pieces}
use Rattle.edge_reader.proofs.WholeInputs.{reading_is, reading_wants, both_ends}
use Rattle.edge_reader.proofs.reader.read_edges.Goals as goal

pub returns-in_err-space-clause-read : goal.returns-in_err-space-clause-read
returns-in_err-space-clause-read g c =
    let p = err_from_is_err_and c.from_residual.result c.from_residual.ensures.1 in
    rw (p.1, p.2) (reading_wants c.args.weighted (g.S.Source.left c.args.source.now))

pub finish-requires-clause-both : goal.finish-requires-clause-both
finish-requires-clause-both g c = (both_ends (newline_pieces c.in_ok-read_lines.ensures.read.text) c.read_lines.new.lines c.in_ok-read_lines.ensures.read.lines).0

pub finish-requires-clause-few : goal.finish-requires-clause-few
finish-requires-clause-few g c = (both_ends (newline_pieces c.in_ok-read_lines.ensures.read.text) c.read_lines.new.lines c.in_ok-read_lines.ensures.read.lines).1

pub returns-clause-read : goal.returns-clause-read
returns-clause-read g c =
    subst (λ w. IsReadingOf w (g.S.Source.left c.args.source.now) (g.S.Source.left c.read_lines.new.source) c.finish.result) c.new-lines.ensures.weighted
    (reading_is c.new-lines.result.weighted (g.S.Source.left c.args.source.now) (g.S.Source.left c.read_lines.new.source) c.read_lines.new.lines c.finish.result c.finish.ensures.own c.in_ok-read_lines.ensures.read c.finish.ensures.says)
