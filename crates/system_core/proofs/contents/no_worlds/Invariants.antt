use Rattle.std.specs.Prelude.{replicate, None}
use Rattle.hub_terms.specs.Hubs.{worker_count}
use Rattle.system_core.proofs.contents.no_worlds.Given as goal

abbrev pub ghost-go_to : goal.ghost-go_to
ghost-go_to a = replicate (worker_count a.by.now) None
