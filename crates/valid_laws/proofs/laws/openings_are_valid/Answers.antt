use Rattle.hub_laws.proofs.Opening.{system_opens}
use Rattle.valid_laws.proofs.Runs.{opens_valid}
use Rattle.valid_laws.proofs.laws.openings_are_valid.Goals as goal

pub returns-clause-in_step : goal.returns-clause-in_step
returns-clause-in_step c = system_opens

pub returns-clause-valid : goal.returns-clause-valid
returns-clause-valid c = opens_valid
