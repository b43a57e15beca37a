use Rattle.hub_laws.proofs.Stuck as stuck
use Rattle.hub_laws.proofs.laws.never_stuck.Goals as goal

pub returns : goal.returns
returns c = stuck.never_stuck
