use Rattle.quiet_laws.proofs.QuietByClass.{values_are_answer, living_are_core}
use Rattle.quiet_laws.proofs.QuietFixed.{quiet_fixed}
use Rattle.quiet_laws.proofs.laws.quiet_is_the_answer.Goals as goal

pub returns-clause-values : goal.returns-clause-values
returns-clause-values c = values_are_answer

pub returns-clause-living : goal.returns-clause-living
returns-clause-living c = living_are_core

pub returns-clause-fixed : goal.returns-clause-fixed
returns-clause-fixed c = λ s answer i k u ok told quiet class is. quiet_fixed s ok class told quiet answer is i k u
