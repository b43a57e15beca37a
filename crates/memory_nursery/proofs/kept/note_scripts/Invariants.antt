use Rattle.memory_nursery.proofs.kept.note_scripts.Given as goal

abbrev pub ghost-go_to : goal.ghost-go_to
ghost-go_to a = record a.self.now { losses = a.by.now.0.now; refusals = a.by.now.1.now }
