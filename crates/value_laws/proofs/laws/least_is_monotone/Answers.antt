use Rattle.value_laws.proofs.LeastGrows.{grows_with_start, grows_with_items}
use Rattle.value_laws.proofs.laws.least_is_monotone.Goals as goal

pub returns-clause-start : goal.returns-clause-start
returns-clause-start c = grows_with_start

pub returns-clause-items : goal.returns-clause-items
returns-clause-items c = grows_with_items
