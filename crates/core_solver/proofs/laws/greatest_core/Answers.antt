use Rattle.px_base.proofs.Uniqueness.{one_core}
use Rattle.core_solver.proofs.CoreExists.{core_exists}
use Rattle.core_solver.proofs.MutualReads.{simple_is_mutual}
use Rattle.core_solver.proofs.laws.greatest_core.Goals as goal

pub returns-clause-exists : goal.returns-clause-exists
returns-clause-exists c = core_exists

pub returns-clause-only : goal.returns-clause-only
returns-clause-only c = one_core

pub returns-clause-simple_is_mutual : goal.returns-clause-simple_is_mutual
returns-clause-simple_is_mutual c = simple_is_mutual
