use Rattle.std.proofs.Common.{◌<◌, ◌-◌, sym, arith}
use Rattle.std.proofs.lemmas.List.FromFn.{get_or-range_with_len}
use Rattle.hub_table.proofs.Ranging.{range_kept}
use Rattle.hub_table.proofs.places.Places.vertex.Goals as goal

pub overflow_cast-result : goal.overflow_cast-result
overflow_cast-result c = let range = range_kept _ _ c.in-Range.low c.in-Range.high c.in-Range.is c.self.invariant c.self.view_is in omega (arith, range.size, range.few, c.requires)

pub overflow_add-result : goal.overflow_add-result
overflow_add-result c = let range = range_kept _ _ c.in-Range.low c.in-Range.high c.in-Range.is c.self.invariant c.self.view_is in omega (arith, range.size, range.order, range.few, c.requires)

pub returns-in-Range : goal.returns-in-Range
returns-in-Range c =
    let range = range_kept _ _ c.in-Range.low c.in-Range.high c.in-Range.is c.self.invariant c.self.view_is in
    let inside : c.args.at < c.in-Range.high - c.in-Range.low = omega (arith, range.size, c.requires) in
    rw range.is (sym (get_or-range_with_len c.in-Range.low (c.in-Range.high - c.in-Range.low) c.args.at 0 inside))
