use Rattle.px_frames.specs.Decodings.{fed_more}
use Rattle.px_frames.proofs.decoder.note_fed.Given as goal

abbrev pub ghost-go_to : goal.ghost-go_to
ghost-go_to a = fed_more a.self.now a.by.now.now
