use Rattle.std.proofs.Common.{length, sym, ap, ◌∙◌}
use Rattle.px_base.proofs.FlatReads.{length-reads_in}
use Rattle.px_base.proofs.row.Row.len.Goals as goal

pub returns : goal.returns
returns c = sym (length-reads_in c.self.inside.sources.now c.self.inside.weights.now c.self.invariant) ∙ ap length c.self.view_is
