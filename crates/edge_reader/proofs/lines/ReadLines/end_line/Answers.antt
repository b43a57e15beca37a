use Rattle.std.proofs.Common.{arith, ap, ◌∙◌, refl}
use Rattle.edge_reader.specs.Scans.{line_said}
use Rattle.edge_reader.proofs.MoreLines.{skipped_more, edge_adds, bad_more}
use Rattle.edge_reader.proofs.lines.ReadLines.end_line.Goals as goal

pub returns-in-Skipped-clause-adds : goal.returns-in-Skipped-clause-adds
returns-in-Skipped-clause-adds c = λ lines line read is small.
    skipped_more lines line c.args.self.now (record c.args.self.now { line = c.saturating_add-self.result }) read (is ∙ ap line_said c.in-Skipped.is) refl
    (omega (arith, c.saturating_add-self.ensures, read.line)) refl refl

pub returns-in-Edge-clause-adds : goal.returns-in-Edge-clause-adds
returns-in-Edge-clause-adds c = λ lines line read is small.
    edge_adds lines line (record { source = c.in-Edge.source; target = c.in-Edge.target; weight = c.in-Edge.weight }) (record c.args.self.now { line = c.args.self.now.line }) c.add.new.self c.add.result read (is ∙ ap line_said c.in-Edge.is)
    c.add.ensures.weighted (omega (arith, c.saturating_add-self.ensures, read.line, c.add.ensures.line)) c.add.ensures.ends c.add.ensures.weights c.add.ensures.room c.add.ensures.refused

pub returns-in-Missing-clause-adds : goal.returns-in-Missing-clause-adds
returns-in-Missing-clause-adds c = λ lines line read is small. record { said = bad_more lines line _ c.args.self.now read (is ∙ ap line_said c.in-Missing.is); own = λ x. cc; early = λ x. cc }

pub returns-in-BadId-clause-adds : goal.returns-in-BadId-clause-adds
returns-in-BadId-clause-adds c = λ lines line read is small. record { said = bad_more lines line _ c.args.self.now read (is ∙ ap line_said c.in-BadId.is); own = λ x. cc; early = λ x. cc }

pub returns-in-BadWeight-clause-adds : goal.returns-in-BadWeight-clause-adds
returns-in-BadWeight-clause-adds c = λ lines line read is small. record { said = bad_more lines line _ c.args.self.now read (is ∙ ap line_said c.in-BadWeight.is); own = λ x. cc; early = λ x. cc }
