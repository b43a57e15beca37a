use Rattle.budget_laws.proofs.AllKept.{opens_with_all, event_keeps_all, reached_keeps_all}
use Rattle.budget_laws.proofs.laws.all_facts_are_kept.Goals as goal

pub returns-clause-opens : goal.returns-clause-opens
returns-clause-opens c = opens_with_all

pub returns-clause-keeps : goal.returns-clause-keeps
returns-clause-keeps c = event_keeps_all

pub returns-clause-reached : goal.returns-clause-reached
returns-clause-reached c = reached_keeps_all
