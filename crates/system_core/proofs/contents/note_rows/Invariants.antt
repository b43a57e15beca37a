use Rattle.system_core.proofs.contents.note_rows.Given as goal

abbrev pub ghost-go_to : goal.ghost-go_to
ghost-go_to a = record a.self.now { rows = a.by.now.rows }
