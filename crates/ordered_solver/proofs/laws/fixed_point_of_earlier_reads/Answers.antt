use Rattle.px_base.proofs.OneFixed.{one_fixed}
use Rattle.ordered_solver.proofs.Existence.{one_exists}
use Rattle.ordered_solver.proofs.Ranks.{are_earlier, are_ordered}
use Rattle.ordered_solver.proofs.laws.fixed_point_of_earlier_reads.Goals as goal

pub returns-clause-exists : goal.returns-clause-exists
returns-clause-exists c = λ p rows starts class o fit first few. one_exists p rows starts o fit first few

pub returns-clause-only : goal.returns-clause-only
returns-clause-only c = one_fixed

pub returns-clause-earlier : goal.returns-clause-earlier
returns-clause-earlier c = are_earlier

pub returns-clause-ordered : goal.returns-clause-ordered
returns-clause-ordered c = are_ordered
