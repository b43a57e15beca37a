use Rattle.std.specs.Prelude.{slice_set}
use Rattle.hub_terms.specs.Systems.{world_after}
use Rattle.system_core.proofs.contents.worlds_stepped.Given as goal

abbrev pub ghost-go_to : goal.ghost-go_to
ghost-go_to a = slice_set a.by.now.0.now.worlds a.by.now.1 (world_after a.by.now.0.now a.by.now.1)
