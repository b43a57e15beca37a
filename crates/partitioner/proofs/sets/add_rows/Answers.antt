use Rattle.std.proofs.Common.{◌<◌, ◌*◌, ◌∙◌, length, ap, sym}
use Rattle.std.specs.Prelude.{◌&&◌, ◌||◌, not, slice_range}
use Rattle.px_base.specs.Values.{is_listed}
use Rattle.px_base.specs.Parts.{is_within}
use Rattle.px_base.proofs.FlatConcat.{all_between, some_row_reads}
use Rattle.partitioner.specs.Bits.{holds}
use Rattle.partitioner.proofs.sets.add_rows.Goals as goal

pub add_outside-requires : goal.add_outside-requires
add_outside-requires c = rw c.sources_between.ensures (all_between (λ u. u < 64 * length c.args.set.now) c.args.rows.now c.args.low c.args.high c.requires.sources)

pub returns : goal.returns
returns c = λ u.
    c.add_outside.ensures u
    ∙ ap (λ b. holds c.args.set.now u || (not (is_within c.args.low c.args.high u) && b)) (ap (λ s. is_listed s u) c.sources_between.ensures ∙ sym (some_row_reads u (slice_range c.args.rows.now c.args.low c.args.high)))
