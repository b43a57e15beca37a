use Rattle.std.proofs.Common.{length, ap, arith}
use Rattle.px_base.proofs.FlatRanges.{length-rows_in}
use Rattle.px_base.proofs.rows.Rows.copy_range.Goals as goal

pub copied_range-requires-clause-inside : goal.copied_range-requires-clause-inside
copied_range-requires-clause-inside c =
    omega (arith, length-rows_in c.self.inside.starts.items c.self.inside.sources.items c.self.inside.weights.items, ap length c.self.view_is, ap length c.deref.ensures.value, c.requires.inside, c.requires.order)
