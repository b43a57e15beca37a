use Rattle.std.proofs.Common.{◌∙◌, ◌≡◌, length, sym, ap, rules}
use Rattle.px_base.specs.Graphs.{read_count}
use Rattle.px_base.proofs.FlatRanges.{read_count-rows_in}
use Rattle.px_base.proofs.rows.Rows.read_count.Goals as goal

pub returns-clause-count : goal.returns-clause-count
returns-clause-count c =
    let count : c.len.result ≡ length c.self.inside.sources.items = search rules in
    count ∙ sym (read_count-rows_in c.self.inside.starts.items c.self.inside.sources.items c.self.inside.weights.items c.self.invariant) ∙ ap read_count c.self.view_is
