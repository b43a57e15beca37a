use Rattle.std.proofs.Common.{◌<◌, length, sym, ap, ◌∙◌, arith, rules}
use Rattle.px_base.proofs.FlatReads.{from_place, from_end}
use Rattle.px_base.proofs.row.RowReadsIterator.next.Goals as goal

pub returns-then-self-clause-steps : goal.returns-then-self-clause-steps
returns-then-self-clause-steps c =
    let none = sym c.self.view_is ∙ from_end c.self.inside.sources.now c.self.inside.weights.now c.self.inside.at c.self.invariant.0 (omega arith) in (none, none)

pub returns-clause-steps : goal.returns-clause-steps
returns-clause-steps c =
    let inside : c.self.inside.at < length c.self.inside.sources.now = omega arith in
    rw c.read_in-read.ensures.read (sym c.self.view_is ∙ from_place c.self.inside.sources.now c.self.inside.weights.now c.self.inside.at c.self.invariant.0 inside)

pub returns-clause-goes : goal.returns-clause-goes
returns-clause-goes c =
    let inside : c.self.inside.at < length c.self.inside.sources.now = omega arith in
    let step = sym c.self.view_is ∙ from_place c.self.inside.sources.now c.self.inside.weights.now c.self.inside.at c.self.invariant.0 inside in
    let shorter = ap length step in search rules
