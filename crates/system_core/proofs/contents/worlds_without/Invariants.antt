use Rattle.std.specs.Prelude.{slice_set, None}
use Rattle.system_core.proofs.contents.worlds_without.Given as goal

abbrev pub ghost-go_to : goal.ghost-go_to
ghost-go_to a = slice_set a.by.now.0.now.worlds a.by.now.1 None
