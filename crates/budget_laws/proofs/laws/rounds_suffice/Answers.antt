use Rattle.budget_laws.proofs.AllKept.{reached_within, reached_never_spent, reached_never_told}
use Rattle.budget_laws.proofs.laws.rounds_suffice.Goals as goal

pub returns-clause-within : goal.returns-clause-within
returns-clause-within c = reached_within

pub returns-clause-kept : goal.returns-clause-kept
returns-clause-kept c = reached_never_spent

pub returns-clause-told : goal.returns-clause-told
returns-clause-told c = reached_never_told
