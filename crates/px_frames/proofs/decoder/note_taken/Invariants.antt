use Rattle.px_frames.specs.Decodings.{took_more}
use Rattle.px_frames.proofs.decoder.note_taken.Given as goal

abbrev pub ghost-go_to : goal.ghost-go_to
ghost-go_to a = took_more a.self.now
