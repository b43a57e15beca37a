use Rattle.std.proofs.Common.{◌≡◌, ℕ, Bool, true, false, eqb, List, length, ap, ◌∙◌, subst}
use Rattle.px_frames.specs.Decodings.{Keeps}
use Rattle.px_frames.proofs.Decoders.{between_is, not_and_true}
use Rattle.px_frames.proofs.Keeping.{not_between_if_torn}
use Rattle.px_frames.proofs.decoder.Decoder.between.Goals as goal

pub returns-then-not-self : goal.returns-then-not-self
returns-then-not-self c =
    let whole : c.self.inside.torn ≡ false = c.if-not-self.true in
    rw (← c.self.view_is)
    (between_is c.self.inside.history c.self.inside.pending.items c.self.inside.waiting.items c.self.inside.whole
    (subst (λ (t : Bool). Keeps c.self.inside.history c.self.inside.pending.items c.self.inside.waiting.items c.self.inside.whole t) whole c.self.invariant.keeps)
    c.is_empty.result (c.is_empty.ensures ∙ ap (λ (l : List ℕ). eqb (length l) 0) c.as_slice.ensures.value))

pub returns-else-not-self : goal.returns-else-not-self
returns-else-not-self c =
    let torn : c.self.inside.torn ≡ true = c.if-not-self.false in
    rw (← c.self.view_is) (
      λ t. absurd (not_and_true c.self.inside.torn torn t),
      λ p. absurd (not_between_if_torn c.self.inside.history c.self.inside.pending.items c.self.inside.waiting.items c.self.inside.whole
          (subst (λ (t : Bool). Keeps c.self.inside.history c.self.inside.pending.items c.self.inside.waiting.items c.self.inside.whole t) torn c.self.invariant.keeps) p),
    )
