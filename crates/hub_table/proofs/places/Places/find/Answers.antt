use Rattle.hub_table.proofs.Listing.{range_listed}
use Rattle.hub_table.proofs.Ranging.{range_kept, found_in_range}
use Rattle.hub_table.proofs.places.Places.find.Goals as goal

pub returns-in-Range-clause-some : goal.returns-in-Range-clause-some
returns-in-Range-clause-some c =
    let range = range_kept _ _ c.in-Range.low c.in-Range.high c.in-Range.is c.self.invariant c.self.view_is in
    rw range.is (found_in_range c.in-Range.low c.in-Range.high c.args.vertex c.place_within.result c.place_within.ensures.some)

pub returns-in-Range-clause-none : goal.returns-in-Range-clause-none
returns-in-Range-clause-none c =
    let range = range_kept _ _ c.in-Range.low c.in-Range.high c.in-Range.is c.self.invariant c.self.view_is in
    rw (range.is, range_listed c.in-Range.low c.in-Range.high c.args.vertex range.order) c.place_within.ensures.none
