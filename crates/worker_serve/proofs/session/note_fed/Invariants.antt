use Rattle.worker_serve.specs.Talks.{fed_more}
use Rattle.worker_serve.proofs.session.note_fed.Given as goal

abbrev pub ghost-go_to : goal.ghost-go_to
ghost-go_to a = fed_more a.self.now a.by.now.now
