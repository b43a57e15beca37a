use Rattle.worker_serve.specs.Talks.{ended_by}
use Rattle.worker_serve.proofs.session.note_end.Given as goal

abbrev pub ghost-go_to : goal.ghost-go_to
ghost-go_to a = ended_by a.self.now a.by.now
