use Rattle.class_checker.proofs.Kept.{refusal_shown}
use Rattle.class_checker.proofs.laws.refusals_show_why.Goals as goal

pub returns : goal.returns
returns c = refusal_shown
