use Rattle.answers.proofs.ByClass.{exists, only}
use Rattle.answers.proofs.laws.every_program_has_one_answer.Goals as goal

pub returns-clause-exists : goal.returns-clause-exists
returns-clause-exists c = exists

pub returns-clause-only : goal.returns-clause-only
returns-clause-only c = only
