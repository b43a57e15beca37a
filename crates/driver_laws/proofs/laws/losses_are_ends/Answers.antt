use Rattle.driver_laws.proofs.Paid.{ends_rose, starts_paid}
use Rattle.driver_laws.proofs.laws.losses_are_ends.Goals as goal

pub returns : goal.returns
returns c = record { losses = ends_rose; starts = starts_paid }
