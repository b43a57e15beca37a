use Rattle.job_laws.proofs.OneAnswer.{exists, only}
use Rattle.job_laws.proofs.laws.every_sound_job_has_one_answer.Goals as goal

pub returns-clause-exists : goal.returns-clause-exists
returns-clause-exists c = exists

pub returns-clause-only : goal.returns-clause-only
returns-clause-only c = only
