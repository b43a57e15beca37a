use Rattle.std.proofs.Common.{refl, ◌^◌, ◌<◌, arith, ap, length}
use Rattle.std.specs.Prelude.{All, not, slice_range}
use Rattle.px_base.specs.Parts.{is_within, low_of, high_of}
use Rattle.partitioner.proofs.Fitting.{part_holds}
use Rattle.partitioner.proofs.Mirrors.{held_fit, mirrors_named}
use Rattle.partitioner.proofs.words.mirrors.Goals as goal

pub positions-requires-clause-fit : goal.positions-requires-clause-fit
positions-requires-clause-fit c =
    held_fit (length c.args.rows.now) (2 ^ 32) c.args.rows.now (slice_range c.args.rows.now (low_of c.as_slice-ends.result.now c.args.j) (high_of c.as_slice-ends.result.now c.args.j)) c.in_ok-set.set.items c.as_slice.result.now
    (λ u. not (is_within (low_of c.as_slice-ends.result.now c.args.j) (high_of c.as_slice-ends.result.now c.args.j) u)) (omega (arith, c.in_ok-set.ensures.size, c.in_ok-set.ensures.room)) c.as_slice.ensures.value
    (part_holds (λ row. All (λ r. r.source < length c.args.rows.now) row) c.args.rows.now (low_of c.as_slice-ends.result.now c.args.j) (high_of c.as_slice-ends.result.now c.args.j) c.requires.sources)
    c.in_ok-set.ensures.holds

pub positions-requires-clause-room : goal.positions-requires-clause-room
positions-requires-clause-room c = omega (arith, ap length c.as_slice.ensures.value, c.in_ok-set.ensures.room)

pub returns : goal.returns
returns c =
    mirrors_named c.positions.result (λ found. found.items) (length c.args.rows.now) c.args.rows.now c.in_ok-set.set.items c.as_slice.result.now c.args.cuts.now.ends c.as_slice-ends.result.now c.args.j
    refl c.in_ok-set.ensures.size c.as_slice.ensures.value c.as_slice-ends.ensures c.requires.sources c.in_ok-set.ensures.holds c.positions.ensures
