use Rattle.std.proofs.Common.{◌≡◌, true, false, [], sym, ap, subst, ◌∙◌}
use Rattle.px_base.specs.FrameFits.{AreFramesOf}
use Rattle.px_frames.specs.Decodings.{IsCount}
use Rattle.px_base.specs.declared.frame.Frame.{Frame as FrameData}
use Rattle.std.proofs.Common.{List}
use Rattle.worker_serve.proofs.Reading.{ends_between, ends_inside}
use Rattle.worker_serve.proofs.session.Session.at_end.Goals as goal

pub returns-then-between : goal.returns-then-between
returns-then-between c = λ frames rest are.
    (let bytes : c.self.inside.decoder.bytes ≡ c.args.self.now.bytes = (c.self.invariant.goes_on (ap (λ t. t.end) c.self.view_is ∙ c.requires)).bytes ∙ ap (λ t. t.bytes) c.self.view_is in
    let whole = c.between.ensures.0 c.if-between.true in
    ends_between c.args.self.now.bytes frames rest are (whole.0, subst (λ bs. AreFramesOf bs whole.0 []) bytes whole.1))

pub returns-else-between : goal.returns-else-between
returns-else-between c = λ frames rest are.
    (let bytes : c.self.inside.decoder.bytes ≡ c.args.self.now.bytes = (c.self.invariant.goes_on (ap (λ t. t.end) c.self.view_is ∙ c.requires)).bytes ∙ ap (λ t. t.bytes) c.self.view_is in
    let never : (all : List FrameData) × AreFramesOf c.args.self.now.bytes all [] → ⊥ = λ whole.
    (let said : c.between.result ≡ true = c.between.ensures.1 (whole.0, subst (λ bs. AreFramesOf bs whole.0 []) (sym bytes) whole.1) in let none : false ≡ true = sym c.if-between.false ∙ said in cc) in
    ends_inside c.args.self.now.bytes frames rest c.taken.result are never (subst (λ bs. IsCount bs c.taken.result) bytes c.taken.ensures))
