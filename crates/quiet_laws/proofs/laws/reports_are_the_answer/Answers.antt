use Rattle.quiet_laws.proofs.Reported.{is_quiet, reported_are_answer}
use Rattle.quiet_laws.proofs.laws.reports_are_the_answer.Goals as goal

pub returns-clause-quiet : goal.returns-clause-quiet
returns-clause-quiet c = is_quiet

pub returns-clause-values : goal.returns-clause-values
returns-clause-values c = λ s answer ok valid told all is. reported_are_answer s answer ok valid told all is
