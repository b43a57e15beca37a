-- Nothing for each worker.
use Rattle.std.proofs.Common.{None}
use Rattle.std.proofs.Math.ListN.{replicate}
use Rattle.recovery.proofs.kept.no_reports.Given as goal

abbrev pub ghost-go_to : goal.ghost-go_to
ghost-go_to a = replicate a.by.now None
