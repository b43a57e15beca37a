use Rattle.std.proofs.Common.{◌≡◌, ◌∙◌, sym, ap, subst}
use Rattle.px_frames.specs.Decodings.{IsSound, IsTornAt}
use Rattle.std.specs.Prelude.{MatchResult, Ok}
use Rattle.px_frames.specs.declared.decoder.FeedFault.TheVariants as feed_fault
use Rattle.px_frames.specs.Feeds.{Takes, TakesTorn, Refuses}
use Rattle.worker_serve.specs.declared.end.ServeEnd.TheVariants as end
use Rattle.worker_serve.specs.Stages.{AreStepped}
use Rattle.worker_serve.specs.Talks.{fed_more, ended_by}
use Rattle.worker_serve.proofs.Stepping.{keeps_fed, same_bytes, fed_all, fed_torn, fed_nothing}
use Rattle.worker_serve.proofs.session.Session.feed.Goals as goal

pub invariant_of-self : goal.invariant_of-self
invariant_of-self g c =
    keeps_fed c.self.inside.said c.note_fed.new.said c.self.inside.decoder c.feed-fed.new.self c.self.inside.stage c.self.inside.at c.self.inside.ended c.args.piece.now c.self.invariant c.in_default.is c.in-Ok.ensures.fed.now c.note_fed.ensures

pub invariant_of-self-in-Err-Torn : goal.invariant_of-self-in-Err-Torn
invariant_of-self-in-Err-Torn g c =
    (let at_fault : Refuses c.self.inside.decoder c.args.piece.now c.feed-fed.new.self c.in-Err-Torn.field-0 = subst (λ r. MatchResult r (λ _. Takes c.self.inside.decoder c.args.piece.now c.feed-fed.new.self) (λ fault. Refuses c.self.inside.decoder c.args.piece.now c.feed-fed.new.self fault)) c.in-Err-Torn.is c.feed-fed.ensures.fed in
    let same : c.in-Err-Torn.field-0 ≡ feed_fault.Torn c.in-Err-Torn.at = rw c.in-Err-Torn.is at c.in-Err-Torn.field-0-is in
    let torn : TakesTorn c.self.inside.decoder c.args.piece.now c.feed-fed.new.self c.in-Err-Torn.at = subst (λ fault. Refuses c.self.inside.decoder c.args.piece.now c.feed-fed.new.self fault) same at_fault in
    keeps_fed c.self.inside.said c.note_fed.new.said c.self.inside.decoder c.feed-fed.new.self c.self.inside.stage c.self.inside.at c.self.inside.ended c.args.piece.now c.self.invariant c.in_default.is torn.now c.note_fed.ensures)

pub returns-in-Ok-clause-fed : goal.returns-in-Ok-clause-fed
returns-in-Ok-clause-fed g c = λ _.
    (let bytes : c.feed-fed.new.self.bytes ≡ c.note_fed.new.said.bytes = same_bytes c.self.inside.said c.note_fed.new.said c.self.inside.decoder c.feed-fed.new.self c.self.inside.stage c.self.inside.at c.self.inside.ended c.args.piece.now c.self.invariant c.in_default.is c.in-Ok.ensures.fed.now c.note_fed.ensures in
    fed_all c.args.self.now c.note_fed.new.said c.take_all.new.self c.args.piece.now c.args.out.now.items c.take_all.new.out.items c.take_all.result (c.note_fed.ensures ∙ ap (λ t. fed_more t c.args.piece.now) c.self.view_is) c.take_all.ensures
    (λ _. subst IsSound (bytes ∙ sym c.take_all.ensures.bytes) c.in-Ok.ensures.fed.sound))

pub returns-in-Ok-take_all-clause-fed : goal.returns-in-Ok-take_all-clause-fed
returns-in-Ok-take_all-clause-fed g c = λ _.
    (let at_fault : Refuses c.self.inside.decoder c.args.piece.now c.feed-fed.new.self c.in-Err-Torn.field-0 = subst (λ r. MatchResult r (λ _. Takes c.self.inside.decoder c.args.piece.now c.feed-fed.new.self) (λ fault. Refuses c.self.inside.decoder c.args.piece.now c.feed-fed.new.self fault)) c.in-Err-Torn.is c.feed-fed.ensures.fed in
    let same : c.in-Err-Torn.field-0 ≡ feed_fault.Torn c.in-Err-Torn.at = rw c.in-Err-Torn.is at c.in-Err-Torn.field-0-is in
    let torn : TakesTorn c.self.inside.decoder c.args.piece.now c.feed-fed.new.self c.in-Err-Torn.at = subst (λ fault. Refuses c.self.inside.decoder c.args.piece.now c.feed-fed.new.self fault) same at_fault in
    let bytes : c.feed-fed.new.self.bytes ≡ c.note_fed.new.said.bytes = same_bytes c.self.inside.said c.note_fed.new.said c.self.inside.decoder c.feed-fed.new.self c.self.inside.stage c.self.inside.at c.self.inside.ended c.args.piece.now c.self.invariant c.in_default.is torn.now c.note_fed.ensures in
    let steps : AreStepped c.note_fed.new.said c.take_all-in-Err-Torn.new.self c.args.out.now.items c.take_all-in-Err-Torn.new.out.items (Ok tt) = subst (λ r. AreStepped c.note_fed.new.said c.take_all-in-Err-Torn.new.self c.args.out.now.items c.take_all-in-Err-Torn.new.out.items r) c.in-Ok-take_all.is c.take_all-in-Err-Torn.ensures in
    fed_torn c.args.self.now c.note_fed.new.said c.take_all-in-Err-Torn.new.self c.end_by.new.said c.args.piece.now c.args.out.now.items c.take_all-in-Err-Torn.new.out.items c.in-Err-Torn.at (c.note_fed.ensures ∙ ap (λ t. fed_more t c.args.piece.now) c.self.view_is) steps
    (subst (λ bs. IsTornAt bs c.in-Err-Torn.at) (bytes ∙ sym steps.bytes) torn.torn) (c.end_by.ensures.said ∙ ap (λ t. ended_by t (end.Torn c.in-Err-Torn.at)) c.self-in-Err-Torn.view_is))

pub returns-in-Err-Memory-clause-fed : goal.returns-in-Err-Memory-clause-fed
returns-in-Err-Memory-clause-fed g c = λ _.
    fed_nothing c.args.self.now c.self.inside.said c.note_fed.new.said c.end_by-in-Err-Memory.new.said c.self.inside.decoder c.self.inside.stage c.self.inside.at c.args.piece.now c.args.out.now.items c.self.view_is
    (c.self.invariant.goes_on (sym c.self.invariant.end ∙ c.in_default.is)) c.note_fed.ensures c.end_by-in-Err-Memory.ensures.said
