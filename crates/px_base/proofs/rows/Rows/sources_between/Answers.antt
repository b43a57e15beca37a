use Rattle.std.proofs.Common.{length, ap, arith}
use Rattle.px_base.proofs.FlatRanges.{length-rows_in}
use Rattle.px_base.proofs.rows.Rows.sources_between.Goals as goal

pub range_of-requires-clause-inside : goal.range_of-requires-clause-inside
range_of-requires-clause-inside c =
    omega (arith, length-rows_in c.self.inside.starts.items c.self.inside.sources.items c.self.inside.weights.items, ap length c.self.view_is, ap length c.deref-2.ensures.value, c.requires.inside, c.requires.order)
