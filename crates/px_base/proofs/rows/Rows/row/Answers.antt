use Rattle.std.proofs.Common.{◌+◌, ◌<◌, ◌∙◌, length, sym, ap, arith}
use Rattle.px_base.specs.Graphs.{row_at}
use Rattle.px_base.proofs.FlatRanges.{length-rows_in, row-rows_in, row_few}
use Rattle.px_base.proofs.rows.Rows.row.Goals as goal

pub row_of-requires-clause-v : goal.row_of-requires-clause-v
row_of-requires-clause-v c =
    omega (arith, length-rows_in c.self.inside.starts.items c.self.inside.sources.items c.self.inside.weights.items, ap length c.self.view_is, ap length c.deref.ensures.value, c.requires)

pub returns-clause-row : goal.returns-clause-row
returns-clause-row c =
    let starts = c.self.inside.starts.items in
    let sources = c.self.inside.sources.items in
    let weights = c.self.inside.weights.items in
    let inside : c.args.v + 1 < length starts = omega (arith, length-rows_in starts sources weights, ap length c.self.view_is, c.requires) in
    (rw (c.deref.ensures.value, c.deref-2.ensures.value, c.deref-3.ensures.value) at c.row_of.ensures)
    ∙ sym (row-rows_in starts sources weights c.args.v inside) ∙ ap (λ rows. row_at rows c.args.v) c.self.view_is

pub returns-clause-few : goal.returns-clause-few
returns-clause-few c =
    let starts = c.self.inside.starts.items in
    let sources = c.self.inside.sources.items in
    let weights = c.self.inside.weights.items in
    let inside : c.args.v + 1 < length starts = omega (arith, length-rows_in starts sources weights, ap length c.self.view_is, c.requires) in
    let is = rw (c.deref.ensures.value, c.deref-2.ensures.value, c.deref-3.ensures.value) at c.row_of.ensures in
    omega (arith, ap length is, row_few starts sources weights c.self.invariant c.args.v inside)
