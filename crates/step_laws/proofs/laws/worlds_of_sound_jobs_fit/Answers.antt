use Rattle.step_laws.proofs.JobParts.{new_worlds_fit, stepped_worlds_fit}
use Rattle.step_laws.proofs.laws.worlds_of_sound_jobs_fit.Goals as goal

pub returns-clause-new : goal.returns-clause-new
returns-clause-new c = new_worlds_fit

pub returns-clause-stepped : goal.returns-clause-stepped
returns-clause-stepped c = stepped_worlds_fit
