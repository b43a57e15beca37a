use Rattle.consistent_solver.proofs.Reaching.{greatest_exists, only_greatest, greatest_fixed, still_greatest, stepped, reached}
use Rattle.consistent_solver.proofs.laws.greatest_core_list.Goals as goal

pub returns-clause-exists : goal.returns-clause-exists
returns-clause-exists c = greatest_exists

pub returns-clause-only : goal.returns-clause-only
returns-clause-only c = only_greatest

pub returns-clause-fixed : goal.returns-clause-fixed
returns-clause-fixed c = greatest_fixed

pub returns-clause-still : goal.returns-clause-still
returns-clause-still c = still_greatest

pub returns-clause-stepped : goal.returns-clause-stepped
returns-clause-stepped c = stepped

pub returns-clause-reached : goal.returns-clause-reached
returns-clause-reached c = reached
