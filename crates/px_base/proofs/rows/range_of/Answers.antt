use Rattle.std.proofs.Common.{arith}
use Rattle.px_base.proofs.FlatConcat.{sources_range}
use Rattle.px_base.proofs.rows.range_of.Goals as goal

pub returns : goal.returns
returns c = sources_range c.args.starts.now c.args.sources.now c.args.weights.now c.args.low c.args.high c.requires.flat c.requires.order (omega (arith, c.requires.inside))
