use Rattle.std.proofs.Common.{◌∙◌, sym}
use Rattle.px_base.proofs.FlatReads.{slice_range-reads_in}
use Rattle.px_base.proofs.rows.row_of.Goals as goal

pub returns : goal.returns
returns c = rw (c.bounds-begin.ensures.begin, c.bounds-begin.ensures.end) at (c.from_flat.ensures ∙ sym (slice_range-reads_in c.bounds-begin.result.0 c.bounds-begin.result.1 c.args.sources.now c.args.weights.now))
