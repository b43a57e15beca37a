use Rattle.std.proofs.Common.{sym, ◌∙◌, subst}
use Rattle.std.specs.Prelude.{Option}
use Rattle.px_base.specs.declared.frame.Frame.{Frame}
use Rattle.px_frames.specs.Decodings.{IsOldest}
use Rattle.px_frames.proofs.Decoders.{keeps_popped, popped_first}
use Rattle.px_frames.proofs.Keeping.{oldest_of}
use Rattle.px_frames.proofs.decoder.Decoder.next.Goals as goal

pub invariant_of-self : goal.invariant_of-self
invariant_of-self c = record {
  none = c.self.invariant.none;
  keeps = rw c.note_taken.ensures
      (keeps_popped c.self.inside.history c.self.inside.pending.items c.self.inside.waiting.items c.pop_front-frame.new.self.items c.self.inside.whole c.self.inside.torn
      c.pop_front-frame.result c.self.invariant.keeps c.pop_front-frame.ensures.items (sym c.is_some.ensures ∙ c.if-is_some.true));
}

pub returns-then-is_some-clause-oldest : goal.returns-then-is_some-clause-oldest
returns-then-is_some-clause-oldest c =
    rw (← c.self.view_is)
    (subst (λ (r : Option Frame). IsOldest c.self.inside.history r)
    (sym (popped_first c.self.inside.waiting.items c.pop_front-frame.new.self.items c.pop_front-frame.result c.pop_front-frame.ensures.items c.pop_front-frame.ensures.rest))
    (oldest_of c.self.inside.history c.self.inside.pending.items c.self.inside.waiting.items c.self.inside.whole c.self.inside.torn c.self.invariant.keeps))

pub returns-else-is_some-clause-oldest : goal.returns-else-is_some-clause-oldest
returns-else-is_some-clause-oldest c =
    rw (← c.self.view_is)
    (subst (λ (r : Option Frame). IsOldest c.self.inside.history r)
    (sym (popped_first c.self.inside.waiting.items c.pop_front-frame.new.self.items c.pop_front-frame.result c.pop_front-frame.ensures.items c.pop_front-frame.ensures.rest))
    (oldest_of c.self.inside.history c.self.inside.pending.items c.self.inside.waiting.items c.self.inside.whole c.self.inside.torn c.self.invariant.keeps))
