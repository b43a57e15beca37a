use Rattle.std.proofs.Common.{arith, sym, ◌∙◌}
use Rattle.edge_reader.proofs.Digits.{run_more}
use Rattle.edge_reader.proofs.scan.digits_from.Goals as goal

pub loop-end-preserved : goal.loop-end-preserved
loop-end-preserved c = record {
  within = (omega arith, omega arith);
  number = run_more c.args.number c.args.piece.now c.args.from c.loop-end.end c.loop-end.number c.in-Some.more c.loop-end.invariant.within.0 (omega arith) c.loop-end.invariant.number (sym c.with_digit.ensures ∙ c.in-Some.is);
}
