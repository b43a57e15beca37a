use Rattle.std.proofs.Common.{◌∙◌, ◌≡◌, ◌-◌, sym, ap, length, rules}
use Rattle.px_base.proofs.FlatRanges.{length-rows_in}
use Rattle.px_base.proofs.rows.Rows.row_count.Goals as goal

pub returns : goal.returns
returns c =
    let count : c.saturating_sub.result ≡ length c.self.inside.starts.items - 1 = search rules in
    count ∙ sym (length-rows_in c.self.inside.starts.items c.self.inside.sources.items c.self.inside.weights.items) ∙ ap length c.self.view_is
