use Rattle.partitioner.proofs.Fitting.{part_fits}
use Rattle.partitioner.proofs.laws.parts_fit.Goals as goal

pub returns : goal.returns
returns c = part_fits
