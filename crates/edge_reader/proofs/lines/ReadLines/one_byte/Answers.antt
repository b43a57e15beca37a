use Rattle.std.proofs.Common.{arith, ap, ◌∙◌, ◌≡◌, sym, ◌<◌, ◌^◌, length}
use Rattle.std.proofs.lemmas.Result.{err_from_is_err_and}
use Rattle.px_base.specs.Inputs.{ended_lines}
use Rattle.px_base.specs.Lines.{line_of}
use Rattle.edge_reader.specs.Scans.{line_said, judged}
use Rattle.edge_reader.specs.Lists.{open_line}
use Rattle.edge_reader.proofs.LineScans.{scanned_is}
use Rattle.edge_reader.proofs.Texts.{ended_few}
use Rattle.edge_reader.proofs.MoreLines.{byte_more, newline_more, newline_fault}
use Rattle.edge_reader.proofs.lines.ReadLines.one_byte.Goals as goal

pub returns-in_err-end_line-clause-fed : goal.returns-in_err-end_line-clause-fed
returns-in_err-end_line-clause-fed c = λ text h small.
    let few : length (ended_lines text) < 2 ^ 32 = omega (arith, ended_few text) in
    let is : line_of c.args.self.now.weighted (open_line text) ≡ line_said c.judged.result = sym (scanned_is c.args.self.now.weighted (open_line text)) ∙ ap judged (sym h.1) ∙ sym c.judged.ensures in
    let p = err_from_is_err_and c.from_residual.result c.from_residual.ensures.1 in
    rw (p.1, p.2, c.if-byte-eq10.true) (newline_fault c.end_line.new.self.weighted text c.in_err-end_line.field-0.0 (c.in_err-end_line.ensures.adds (ended_lines text) (open_line text) h.0 is few))

pub returns-in_ok-end_line-clause-fed : goal.returns-in_ok-end_line-clause-fed
returns-in_ok-end_line-clause-fed c = λ text h small.
    let few : length (ended_lines text) < 2 ^ 32 = omega (arith, ended_few text) in
    let is : line_of c.args.self.now.weighted (open_line text) ≡ line_said c.judged.result = sym (scanned_is c.args.self.now.weighted (open_line text)) ∙ ap judged (sym h.1) ∙ sym c.judged.ensures in
    rw (c.new.ensures, c.if-byte-eq10.true) (newline_more text c.end_line.new.self (c.in_ok-end_line.ensures.adds (ended_lines text) (open_line text) h.0 is few))

pub returns-else-byte-eq10-clause-fed : goal.returns-else-byte-eq10-clause-fed
returns-else-byte-eq10-clause-fed c = λ text h small. rw c.next_byte.ensures (byte_more text c.args.byte c.args.self.now c.args.scan.now c.if-byte-eq10.false h)
