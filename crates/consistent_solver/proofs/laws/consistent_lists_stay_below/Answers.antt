use Rattle.consistent_solver.proofs.Below.{below_starts, below_gathered, below_renewed, below_renewed_where}
use Rattle.consistent_solver.proofs.laws.consistent_lists_stay_below.Goals as goal

pub returns-clause-starts : goal.returns-clause-starts
returns-clause-starts c = below_starts

pub returns-clause-gathered : goal.returns-clause-gathered
returns-clause-gathered c = below_gathered

pub returns-clause-renewed : goal.returns-clause-renewed
returns-clause-renewed c = below_renewed

pub returns-clause-renewed_where : goal.returns-clause-renewed_where
returns-clause-renewed_where c = below_renewed_where
