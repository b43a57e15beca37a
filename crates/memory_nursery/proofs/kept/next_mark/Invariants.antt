use Rattle.memory_nursery.specs.States.{next_mark}
use Rattle.memory_nursery.proofs.kept.next_mark.Given as goal

abbrev pub ghost-go_to : goal.ghost-go_to
ghost-go_to a = next_mark a.by.now
