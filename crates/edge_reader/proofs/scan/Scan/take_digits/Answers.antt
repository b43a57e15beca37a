use Rattle.edge_reader.specs.Scans.{bytes_between}
use Rattle.edge_reader.proofs.Digits.{source_takes, target_takes, weight_takes}
use Rattle.edge_reader.proofs.scan.Scan.take_digits.Goals as goal

pub returns-in-Source-clause-taken : goal.returns-in-Source-clause-taken
returns-in-Source-clause-taken c =
    source_takes c.args.self.now (bytes_between c.args.piece.now c.args.from c.digits_from-run.result.end) c.digits_from-run.result.number c.if-self.false c.in-Source.is c.digits_from-run.ensures.number

pub returns-in-Target-clause-taken : goal.returns-in-Target-clause-taken
returns-in-Target-clause-taken c =
    target_takes c.args.self.now (bytes_between c.args.piece.now c.args.from c.digits_from-run-in-Target.result.end) c.digits_from-run-in-Target.result.number c.if-self.false c.in-Target.is c.digits_from-run-in-Target.ensures.number

pub returns-in-Weight-clause-taken : goal.returns-in-Weight-clause-taken
returns-in-Weight-clause-taken c =
    weight_takes c.args.self.now (bytes_between c.args.piece.now c.args.from c.digits_from-run-in-Weight.result.end) c.digits_from-run-in-Weight.result.number c.if-self.false c.in-Weight.is c.digits_from-run-in-Weight.ensures.number
