use Rattle.worker_serve.specs.Talks.{took_one}
use Rattle.worker_serve.proofs.session.note_taken.Given as goal

abbrev pub ghost-go_to : goal.ghost-go_to
ghost-go_to a = took_one a.self.now a.by.now.now
