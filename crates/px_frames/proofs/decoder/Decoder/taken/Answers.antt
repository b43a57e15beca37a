use Rattle.px_frames.proofs.Keeping.{count_of}
use Rattle.px_frames.proofs.decoder.Decoder.taken.Goals as goal

pub returns : goal.returns
returns c =
    rw (← c.self.view_is) (count_of c.self.inside.history c.self.inside.pending.items c.self.inside.waiting.items c.self.inside.whole c.self.inside.torn c.self.invariant.keeps)
