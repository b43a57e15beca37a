use Rattle.std.proofs.Common.{◌≡◌, ◌∷◌, ◌++◌, [], ◌∙◌, sym, ap, Some}
use Rattle.std.proofs.lemmas.List.{append-nil}
use Rattle.px_base.specs.declared.frame.Frame.TheVariants as frame
use Rattle.px_base.specs.Frames.{spelling}
use Rattle.worker_serve.specs.Stages.{order_in}
use Rattle.worker_serve.proofs.Staging.{answered_so_far, order_carries, order_fits, refuse_other, refuse_fault, serves_on}
use Rattle.worker_serve.proofs.stage.obey.Goals as goal

pub returns-in_default-clause-refused : goal.returns-in_default-clause-refused
returns-in_default-clause-refused o c = λ frames answers it _. refuse_other it.0 it.1 (answered_so_far c.args.world.now answers) frames c.args.frame it.2 (sym c.order_in.ensures ∙ c.in_default.is)

pub returns-in_err-answer-clause-refused : goal.returns-in_err-answer-clause-refused
returns-in_err-answer-clause-refused o c = λ frames answers it same.
    (let some : order_in c.args.frame ≡ Some c.in-Some.order = sym c.order_in.ensures ∙ c.in-Some.is in
    refuse_fault it.0 it.1 (answered_so_far c.args.world.now answers) frames c.args.frame c.in-Some.order c.in_err-answer.field-0.0 it.2 some c.in_err-answer.ensures.refused (sym (rw same at c.from_residual.ensures.1)))

pub returns-clause-ok : goal.returns-clause-ok
returns-clause-ok o c = λ frames answers it.
    (let some : order_in c.args.frame ≡ Some c.in-Some.order = sym c.order_in.ensures ∙ c.in-Some.is in
    record {
      more = c.in_ok-answer.answer ∷ [];
      added = c.in_ok-write_frame.ensures.ok ∙ ap (λ xs. c.args.out.now.items ++ xs) (sym (append-nil (spelling (frame.Answer c.in_ok-answer.answer))));
      stage = (it.0, it.1 ++ c.in-Some.order ∷ [], serves_on it.0 it.1 c.args.world.now c.step.new.self answers c.in_ok-answer.answer frames c.args.frame c.in-Some.order it.2 some c.in_ok-answer.ensures.ok);
    })
