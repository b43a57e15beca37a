use Rattle.std.specs.Prelude.{slice_set}
use Rattle.hub_terms.specs.Systems.{new_world_at}
use Rattle.system_core.proofs.contents.worlds_with_new.Given as goal

abbrev pub ghost-go_to : goal.ghost-go_to
ghost-go_to a = slice_set a.by.now.0.now.worlds a.by.now.1 (new_world_at a.by.now.0.now a.by.now.1)
