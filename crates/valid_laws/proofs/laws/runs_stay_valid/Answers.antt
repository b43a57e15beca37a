use Rattle.valid_laws.proofs.Runs.{every_state}
use Rattle.valid_laws.proofs.laws.runs_stay_valid.Goals as goal

pub returns : goal.returns
returns c = every_state
