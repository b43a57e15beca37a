use Rattle.std.proofs.Common.{sym, ◌∙◌}
use Rattle.std.proofs.lemmas.Bool.{false≢true}
use Rattle.frame_bodies.proofs.Rising.{rises_from, adjacent_from}
use Rattle.frame_bodies.proofs.fits.pairs_fit.Goals as goal

pub returns-then-pairs_rise : goal.returns-then-pairs_rise
returns-then-pairs_rise c = (
  λ t. record { rising = rises_from c.args.pairs.now (c.pairs_rise.ensures.0 c.if-pairs_rise.true); each = c.are_pairs.ensures.0 t },
  λ h. c.are_pairs.ensures.1 h.each,
)

pub returns-else-pairs_rise : goal.returns-else-pairs_rise
returns-else-pairs_rise c =
    (λ t. absurd (false≢true (sym c.if-pairs_rise.false ∙ t)), λ h. c.pairs_rise.ensures.1 (adjacent_from c.args.pairs.now h.rising))
