use Rattle.system_core.proofs.contents.note_program.Given as goal

abbrev pub ghost-go_to : goal.ghost-go_to
ghost-go_to a = record a.self.now { core = a.by.now.0.now; starts = a.by.now.1.now }
