use Rattle.class_checker.proofs.Kept.{promise_kept}
use Rattle.class_checker.proofs.laws.classes_keep_promises.Goals as goal

pub returns : goal.returns
returns c = promise_kept
