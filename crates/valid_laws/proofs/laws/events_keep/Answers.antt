use Rattle.system_laws.proofs.Kept.{event_in_step}
use Rattle.valid_laws.proofs.CountValid.{event_keeps_valid}
use Rattle.valid_laws.proofs.laws.events_keep.Goals as goal

pub returns-clause-in_step : goal.returns-clause-in_step
returns-clause-in_step c = event_in_step

pub returns-clause-valid : goal.returns-clause-valid
returns-clause-valid c = event_keeps_valid
