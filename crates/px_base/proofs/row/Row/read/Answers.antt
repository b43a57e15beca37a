use Rattle.std.proofs.Common.{◌<◌, ◌∙◌, length, sym, ap, arith}
use Rattle.px_base.specs.FlatRows.{read_at, read_with}
use Rattle.px_base.proofs.FlatReads.{length-reads_in, get_or-reads_in}
use Rattle.px_base.proofs.row.Row.read.Goals as goal

pub read_in-requires-clause-sources : goal.read_in-requires-clause-sources
read_in-requires-clause-sources c = omega (arith, length-reads_in c.self.inside.sources.now c.self.inside.weights.now c.self.invariant, ap length c.self.view_is, c.requires)

pub read_in-requires-clause-weights : goal.read_in-requires-clause-weights
read_in-requires-clause-weights c = omega (arith, length-reads_in c.self.inside.sources.now c.self.inside.weights.now c.self.invariant, ap length c.self.view_is, c.requires, c.self.invariant)

pub returns-clause-read : goal.returns-clause-read
returns-clause-read c =
    let inside : c.args.at < length c.self.inside.sources.now = omega (arith, length-reads_in c.self.inside.sources.now c.self.inside.weights.now c.self.invariant, ap length c.self.view_is, c.requires) in
    c.read_in.ensures.read ∙ sym (get_or-reads_in c.self.inside.sources.now c.self.inside.weights.now c.args.at (read_with 0 0) inside (omega (arith, c.self.invariant)))
    ∙ ap (λ row. read_at row c.args.at) c.self.view_is
