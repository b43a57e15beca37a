use Rattle.round_laws.proofs.Spent.{opens_unspent, event_stops_spent, told_is_spent, first_told_all_live}
use Rattle.round_laws.proofs.laws.budget_shows.Goals as goal

pub returns-clause-opens : goal.returns-clause-opens
returns-clause-opens c = opens_unspent

pub returns-clause-keeps : goal.returns-clause-keeps
returns-clause-keeps c = event_stops_spent

pub returns-clause-told : goal.returns-clause-told
returns-clause-told c = told_is_spent

pub returns-clause-all_live : goal.returns-clause-all_live
returns-clause-all_live c = first_told_all_live
