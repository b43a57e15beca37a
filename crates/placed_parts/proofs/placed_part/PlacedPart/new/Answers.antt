use Rattle.std.proofs.Common.{◌≡◌, ◌∙◌, length, ap, arith}
use Rattle.px_base.specs.FlatRows.{with_sources}
use Rattle.placed_parts.specs.Places.{place_among, place_in}
use Rattle.placed_parts.proofs.Placing.{is_placed, mirror_count, part_again}
use Rattle.placed_parts.proofs.placed_part.PlacedPart.new.Goals as goal

pub place_all-requires-clause-few : goal.place_all-requires-clause-few
place_all-requires-clause-few c = omega (arith, ap length c.as_slice.ensures, mirror_count c.args.part c.requires.fits)

pub invariant_of-result : goal.invariant_of-result
invariant_of-result c =
    let part = c.args.part in
    let rows : c.place_all.new.rows ≡ with_sources (place_in part) part.rows = c.place_all.ensures ∙ ap (λ mirrors. with_sources (place_among part.low part.high mirrors) part.rows) c.as_slice.ensures in
    is_placed part c.place_all.new.rows c.requires.fits rows

pub returns : goal.returns
returns c =
    let part = c.args.part in
    let rows : c.place_all.new.rows ≡ with_sources (place_in part) part.rows = c.place_all.ensures ∙ ap (λ mirrors. with_sources (place_among part.low part.high mirrors) part.rows) c.as_slice.ensures in
    part_again part c.place_all.new.rows c.requires.fits rows
