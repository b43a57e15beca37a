use Rattle.one_text.proofs.Endings.{has_ending_text, one_ending_text}
use Rattle.one_text.proofs.laws.every_ending_has_one_text.Goals as goal

pub returns-clause-exists : goal.returns-clause-exists
returns-clause-exists c = has_ending_text

pub returns-clause-only : goal.returns-clause-only
returns-clause-only c = one_ending_text
