use Rattle.consistent_solver.proofs.Below.{pull_grows}
use Rattle.consistent_solver.proofs.Reaching.{renewed_values, renewed_where_values, renewed_lower, renewed_where_lower, renewed_falls, renewed_where_falls, renewed_last}
use Rattle.consistent_solver.proofs.laws.renewals_step_down.Goals as goal

pub returns-clause-grows : goal.returns-clause-grows
returns-clause-grows c = pull_grows

pub returns-clause-values : goal.returns-clause-values
returns-clause-values c = renewed_values

pub returns-clause-values_where : goal.returns-clause-values_where
returns-clause-values_where c = renewed_where_values

pub returns-clause-lower : goal.returns-clause-lower
returns-clause-lower c = renewed_lower

pub returns-clause-lower_where : goal.returns-clause-lower_where
returns-clause-lower_where c = renewed_where_lower

pub returns-clause-falls : goal.returns-clause-falls
returns-clause-falls c = renewed_falls

pub returns-clause-falls_where : goal.returns-clause-falls_where
returns-clause-falls_where c = renewed_where_falls

pub returns-clause-last : goal.returns-clause-last
returns-clause-last c = renewed_last
