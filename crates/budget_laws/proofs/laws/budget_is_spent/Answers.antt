use Rattle.budget_laws.proofs.AllKept.{reached_told_spent, reached_first_spent}
use Rattle.budget_laws.proofs.laws.budget_is_spent.Goals as goal

pub returns-clause-spent : goal.returns-clause-spent
returns-clause-spent c = reached_told_spent

pub returns-clause-all_live : goal.returns-clause-all_live
returns-clause-all_live c = reached_first_spent
