use Rattle.std.proofs.Common.{map, sym, ap, ◌∙◌}
use Rattle.px_base.specs.declared.graph.Read.{Read}
use Rattle.px_base.proofs.FlatReads.{sources-reads_in}
use Rattle.px_base.proofs.row.Row.sources.Goals as goal

pub returns : goal.returns
returns c = sym (sources-reads_in c.self.inside.sources.now c.self.inside.weights.now c.self.invariant) ∙ ap (map (λ (r : Read). r.source)) c.self.view_is
