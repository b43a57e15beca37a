use Rattle.std.proofs.Common.{◌≡◌, ℕ, Bool, Err, [], ap, sym, ◌∙◌, subst}
use Rattle.std.proofs.lemmas.Bool.{false≢true}
use Rattle.px_frames.specs.declared.decoder.FeedFault.TheVariants as fault
use Rattle.px_frames.specs.Decodings.{Fed, fed_more, Keeps}
use Rattle.px_frames.proofs.Decoders.{keeps_torn_on, takes_torn, takes_sound}
use Rattle.px_frames.proofs.Keeping.{keeps_more, keeps_no_bytes, same_place, never_torn}
use Rattle.px_frames.proofs.decoder.Decoder.feed.Goals as goal

pub invariant_of-self : goal.invariant_of-self
invariant_of-self c = record {
  keeps = rw c.note_fed.ensures
      (keeps_torn_on c.self.inside.history c.self.inside.pending.items c.self.inside.waiting.items c.self.inside.whole c.self.inside.torn c.if-self.true c.self.invariant.keeps c.args.piece.now);
  none = c.self.invariant.none;
}

pub returns-then-self-clause-fed : goal.returns-then-self-clause-fed
returns-then-self-clause-fed c =
    let kept : Keeps c.note_fed.new.history c.self.inside.pending.items c.self.inside.waiting.items c.self.inside.whole c.self.inside.torn =
    rw c.note_fed.ensures (keeps_torn_on c.self.inside.history c.self.inside.pending.items c.self.inside.waiting.items c.self.inside.whole c.self.inside.torn c.if-self.true c.self.invariant.keeps c.args.piece.now) in
    takes_torn c.args.self.now c.note_fed.new.history c.args.piece.now c.self.inside.pending.items c.self.inside.waiting.items c.self.inside.whole c.self.inside.torn c.if-self.true kept
    (c.note_fed.ensures ∙ ap (λ (x : Fed). fed_more x c.args.piece.now) c.self.view_is)

pub invariant_of-self-then-scanned : goal.invariant_of-self-then-scanned
invariant_of-self-then-scanned c =
    let kept : Keeps c.note_fed-in-Ok.new.history c.take_in.new.pending.items c.take_in.new.waiting.items c.counted-self-inside.result c.in-Ok.scanned.torn =
    rw (c.note_fed-in-Ok.ensures, c.in-Ok.ensures.rest, c.counted-self-inside.ensures)
    (keeps_more c.self.inside.history c.self.inside.pending.items c.self.inside.waiting.items c.self.inside.whole
    (subst (λ (t : Bool). Keeps c.self.inside.history c.self.inside.pending.items c.self.inside.waiting.items c.self.inside.whole t) c.if-self.false c.self.invariant.keeps)
    c.args.piece.now c.take_in.new.waiting.items c.in-Ok.scanned.at c.in-Ok.scanned.torn c.in-Ok.ensures.ok) in
    let empty : c.clear.new.self.items ≡ [] = c.clear.ensures.items in
    record {
      keeps = rw empty (keeps_no_bytes c.note_fed-in-Ok.new.history c.take_in.new.pending.items c.take_in.new.waiting.items c.counted-self-inside.result c.in-Ok.scanned.torn c.if-scanned.true kept);
      none = λ e. empty;
    }

pub returns-then-scanned-clause-fed : goal.returns-then-scanned-clause-fed
returns-then-scanned-clause-fed c =
    let kept : Keeps c.note_fed-in-Ok.new.history c.take_in.new.pending.items c.take_in.new.waiting.items c.counted-self-inside.result c.in-Ok.scanned.torn =
    rw (c.note_fed-in-Ok.ensures, c.in-Ok.ensures.rest, c.counted-self-inside.ensures)
    (keeps_more c.self.inside.history c.self.inside.pending.items c.self.inside.waiting.items c.self.inside.whole
    (subst (λ (t : Bool). Keeps c.self.inside.history c.self.inside.pending.items c.self.inside.waiting.items c.self.inside.whole t) c.if-self.false c.self.invariant.keeps)
    c.args.piece.now c.take_in.new.waiting.items c.in-Ok.scanned.at c.in-Ok.scanned.torn c.in-Ok.ensures.ok) in
    takes_torn c.args.self.now c.note_fed-in-Ok.new.history c.args.piece.now c.take_in.new.pending.items c.take_in.new.waiting.items c.counted-self-inside.result c.in-Ok.scanned.torn c.if-scanned.true kept
    (c.note_fed-in-Ok.ensures ∙ ap (λ (x : Fed). fed_more x c.args.piece.now) c.self.view_is)

pub invariant_of-self-else-scanned : goal.invariant_of-self-else-scanned
invariant_of-self-else-scanned c = record {
  keeps = rw (c.note_fed-in-Ok.ensures, c.in-Ok.ensures.rest, c.counted-self-inside.ensures)
      (keeps_more c.self.inside.history c.self.inside.pending.items c.self.inside.waiting.items c.self.inside.whole
      (subst (λ (t : Bool). Keeps c.self.inside.history c.self.inside.pending.items c.self.inside.waiting.items c.self.inside.whole t) c.if-self.false c.self.invariant.keeps)
      c.args.piece.now c.take_in.new.waiting.items c.in-Ok.scanned.at c.in-Ok.scanned.torn c.in-Ok.ensures.ok);
  none = λ e. absurd (false≢true (sym c.if-scanned.false ∙ e));
}

pub returns-else-scanned-clause-fed : goal.returns-else-scanned-clause-fed
returns-else-scanned-clause-fed c =
    let kept : Keeps c.note_fed-in-Ok.new.history c.take_in.new.pending.items c.take_in.new.waiting.items c.counted-self-inside.result c.in-Ok.scanned.torn =
    rw (c.note_fed-in-Ok.ensures, c.in-Ok.ensures.rest, c.counted-self-inside.ensures)
    (keeps_more c.self.inside.history c.self.inside.pending.items c.self.inside.waiting.items c.self.inside.whole
    (subst (λ (t : Bool). Keeps c.self.inside.history c.self.inside.pending.items c.self.inside.waiting.items c.self.inside.whole t) c.if-self.false c.self.invariant.keeps)
    c.args.piece.now c.take_in.new.waiting.items c.in-Ok.scanned.at c.in-Ok.scanned.torn c.in-Ok.ensures.ok) in
    takes_sound c.args.self.now c.note_fed-in-Ok.new.history c.args.piece.now c.take_in.new.pending.items c.take_in.new.waiting.items c.counted-self-inside.result c.in-Ok.scanned.torn c.if-scanned.false kept
    (c.note_fed-in-Ok.ensures ∙ ap (λ (x : Fed). fed_more x c.args.piece.now) c.self.view_is)

pub returns-then-self-clause-again : goal.returns-then-self-clause-again
returns-then-self-clause-again c =
    rw (← c.self.view_is) (λ at h. ap (λ (n : ℕ). Err (fault.Torn n)) (same_place c.self.inside.history c.self.inside.pending.items c.self.inside.waiting.items c.self.inside.whole c.self.inside.torn c.if-self.true c.self.invariant.keeps at h))

pub returns-then-scanned-clause-again : goal.returns-then-scanned-clause-again
returns-then-scanned-clause-again c =
    rw (← c.self.view_is) (λ at h. absurd (never_torn c.self.inside.history c.self.inside.pending.items c.self.inside.waiting.items c.self.inside.whole c.self.inside.torn c.if-self.false c.self.invariant.keeps at h))

pub returns-else-scanned-clause-again : goal.returns-else-scanned-clause-again
returns-else-scanned-clause-again c =
    rw (← c.self.view_is) (λ at h. absurd (never_torn c.self.inside.history c.self.inside.pending.items c.self.inside.waiting.items c.self.inside.whole c.self.inside.torn c.if-self.false c.self.invariant.keeps at h))

pub returns-in-Err-clause-again : goal.returns-in-Err-clause-again
returns-in-Err-clause-again c =
    rw (← c.self.view_is) (λ at h. absurd (never_torn c.self.inside.history c.self.inside.pending.items c.self.inside.waiting.items c.self.inside.whole c.self.inside.torn c.if-self.false c.self.invariant.keeps at h))
