use Rattle.settling_laws.proofs.AllSettles.{lowest_at_last, shallow_at_last, some_right, core_at_last}
use Rattle.settling_laws.proofs.laws.all_settles.Goals as goal

pub returns-clause-locally : goal.returns-clause-locally
returns-clause-locally c = lowest_at_last

pub returns-clause-shallow : goal.returns-clause-shallow
returns-clause-shallow c = shallow_at_last

pub returns-clause-right : goal.returns-clause-right
returns-clause-right c = some_right

pub returns-clause-globally : goal.returns-clause-globally
returns-clause-globally c = core_at_last
