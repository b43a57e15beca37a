use Rattle.partitioner.proofs.Blocks.{block_cuts_are}
use Rattle.partitioner.proofs.laws.blocks_are_cuts.Goals as goal

pub returns : goal.returns
returns c = block_cuts_are
