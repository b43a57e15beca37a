use Rattle.supervisor.proofs.team.told_by.Given as goal

abbrev pub ghost-go_to : goal.ghost-go_to
ghost-go_to g a = (g.N.Nursery.shown a.by.now).tells
