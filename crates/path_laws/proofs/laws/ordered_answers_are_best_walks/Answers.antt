use Rattle.path_laws.proofs.Fixed.{stabilised_attained, stabilised_none_better}
use Rattle.path_laws.proofs.laws.ordered_answers_are_best_walks.Goals as goal

pub returns-clause-none_better : goal.returns-clause-none_better
returns-clause-none_better c = stabilised_none_better

pub returns-clause-attained : goal.returns-clause-attained
returns-clause-attained c = stabilised_attained
