use Rattle.px_base.proofs.Owners.{one_owner}
use Rattle.partitioner.proofs.Owned.{an_owner}
use Rattle.partitioner.proofs.laws.one_owner.Goals as goal

pub returns-clause-some : goal.returns-clause-some
returns-clause-some c = an_owner

pub returns-clause-only : goal.returns-clause-only
returns-clause-only c = one_owner
