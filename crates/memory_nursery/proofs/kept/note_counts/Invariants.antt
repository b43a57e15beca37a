use Rattle.memory_nursery.specs.States.{plan_now}
use Rattle.memory_nursery.proofs.kept.note_counts.Given as goal

abbrev pub ghost-go_to : goal.ghost-go_to
ghost-go_to a = plan_now a.by.now.nursery a.self.now.losses a.self.now.refusals
