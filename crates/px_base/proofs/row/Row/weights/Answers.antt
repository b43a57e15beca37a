use Rattle.std.proofs.Common.{map, sym, ap, ◌∙◌}
use Rattle.px_base.specs.declared.graph.Read.{Read}
use Rattle.px_base.proofs.FlatReads.{weights-reads_in}
use Rattle.px_base.proofs.row.Row.weights.Goals as goal

pub returns : goal.returns
returns c = sym (weights-reads_in c.self.inside.sources.now c.self.inside.weights.now c.self.invariant) ∙ ap (map (λ (r : Read). r.weight)) c.self.view_is
