use Rattle.std.proofs.Common.{◌-◌, ◌∙◌, ap, length, sym, subst, arith}
use Rattle.px_base.proofs.Members.{range_rises}
use Rattle.mirror_places.proofs.Tabling.{few}
use Rattle.hub_table.specs.Kept.{vertices_in, IsKept}
use Rattle.hub_table.proofs.Ranging.{range_kept}
use Rattle.hub_table.proofs.places.Places.len.Goals as goal

pub returns-in-Listed-clause-few : goal.returns-in-Listed-clause-few
returns-in-Listed-clause-few c =
    let known = subst IsKept c.in-Listed.is c.self.invariant in
    omega (arith, few c.in-Listed.vertices.items known.0 known.1, ap length (sym c.self.view_is ∙ ap vertices_in c.in-Listed.is))

pub returns-in-Range-clause-count : goal.returns-in-Range-clause-count
returns-in-Range-clause-count c = sym (range_kept _ _ c.in-Range.low c.in-Range.high c.in-Range.is c.self.invariant c.self.view_is).size

pub returns-in-Range-clause-rising : goal.returns-in-Range-clause-rising
returns-in-Range-clause-rising c = rw (range_kept _ _ c.in-Range.low c.in-Range.high c.in-Range.is c.self.invariant c.self.view_is).is (range_rises c.in-Range.low (c.in-Range.high - c.in-Range.low))

pub returns-in-Range-clause-few : goal.returns-in-Range-clause-few
returns-in-Range-clause-few c = let range = range_kept _ _ c.in-Range.low c.in-Range.high c.in-Range.is c.self.invariant c.self.view_is in omega (arith, range.size, range.few)
