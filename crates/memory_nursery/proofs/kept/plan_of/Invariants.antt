use Rattle.memory_nursery.proofs.kept.plan_of.Given as goal

abbrev pub ghost-go_to : goal.ghost-go_to
ghost-go_to a = a.by.now.plan
