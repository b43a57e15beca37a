use Rattle.path_laws.proofs.Turned.{attained, none_better}
use Rattle.path_laws.proofs.laws.answers_are_best_walks.Goals as goal

pub returns-clause-none_better : goal.returns-clause-none_better
returns-clause-none_better c = none_better

pub returns-clause-attained : goal.returns-clause-attained
returns-clause-attained c = attained
