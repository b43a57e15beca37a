use Rattle.partitioner.proofs.Fitting.{mirror_on_route}
use Rattle.partitioner.proofs.laws.mirrors_are_routed.Goals as goal

pub returns : goal.returns
returns c = mirror_on_route
