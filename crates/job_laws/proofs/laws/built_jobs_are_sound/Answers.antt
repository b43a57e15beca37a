use Rattle.job_laws.proofs.Built.{built_is_sound}
use Rattle.job_laws.proofs.laws.built_jobs_are_sound.Goals as goal

pub returns : goal.returns
returns c = built_is_sound
