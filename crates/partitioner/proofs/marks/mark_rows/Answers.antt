use Rattle.std.proofs.Common.{◌<◌, ◌∙◌, false, length, ap, sym}
use Rattle.std.specs.Prelude.{◌||◌, slice_index_or, slice_range}
use Rattle.px_base.specs.Values.{is_listed}
use Rattle.px_base.proofs.FlatConcat.{all_between, some_row_reads}
use Rattle.partitioner.proofs.marks.mark_rows.Goals as goal

pub mark-requires : goal.mark-requires
mark-requires c = rw c.sources_between.ensures (all_between (λ u. u < length c.args.marks.now) c.args.rows.now c.args.low c.args.high c.requires.sources)

pub returns : goal.returns
returns c = λ u.
    c.mark.ensures u
    ∙ ap (λ b. slice_index_or c.args.marks.now u false || b) (ap (λ s. is_listed s u) c.sources_between.ensures ∙ sym (some_row_reads u (slice_range c.args.rows.now c.args.low c.args.high)))
