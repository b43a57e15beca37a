use Rattle.std.proofs.Common.{rules}
use Rattle.partitioner.proofs.Blocks.{cuts_from}
use Rattle.partitioner.proofs.cuts.cut.Goals as goal

pub returns-clause-cuts : goal.returns-clause-cuts
returns-clause-cuts c = cuts_from c.args.n c.args.workers c.from_vec.result c.requires.some c.requires.most (search rules)
