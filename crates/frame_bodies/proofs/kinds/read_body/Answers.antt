use Rattle.std.proofs.Common.{sym, ◌∙◌}
use Rattle.std.proofs.lemmas.Bool.{false≢true}
use Rattle.frame_bodies.proofs.Candidates.{none_fits}
use Rattle.frame_bodies.proofs.kinds.read_body.Goals as goal

pub returns-else-frame_fits : goal.returns-else-frame_fits
returns-else-frame_fits c =
    none_fits c.args.kind c.args.body.now c.in-Some.frame (rw c.in-Some.is at c.in_ok-frame.ensures)
    (λ k. false≢true (sym c.if-frame_fits.false ∙ c.frame_fits.ensures.1 k))
