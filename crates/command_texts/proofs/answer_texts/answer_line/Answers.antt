use Rattle.std.proofs.Common.{[], ◌∷◌, ◌++◌, append_assoc, ◌∙◌, ap, refl}
use Rattle.std.specs.Prelude.{decimal}
use Rattle.px_base.specs.Text.{answer_line, value_text}
use Rattle.command_ends.proofs.Growing.{on_any_err}
use Rattle.command_texts.proofs.GrowingText.{begins}
use Rattle.command_texts.proofs.answer_texts.answer_line.Goals as goal

pub returns-in_err-push-clause-err : goal.returns-in_err-push-clause-err
returns-in_err-push-clause-err c =
    on_any_err c.from_residual-in_err-push.result
    (begins c.args.out.now.items c.push.new.self.items (decimal c.args.id) (32 ∷ value_text c.args.value ++ 10 ∷ []) (answer_line c.args.id c.args.value)
    (c.in_err-push.ensures.items ∙ c.in_ok-write_number.ensures.ok)
    (simp append_assoc))

pub returns-in_err-write_value-clause-err : goal.returns-in_err-write_value-clause-err
returns-in_err-write_value-clause-err c =
    on_any_err c.from_residual-in_err-write_value.result
    (begins c.args.out.now.items c.write_value.new.out.items (decimal c.args.id ++ 32 ∷ []) (value_text c.args.value ++ 10 ∷ []) (answer_line c.args.id c.args.value)
    (c.in_err-write_value.ensures.err ∙ c.in_ok-push.ensures.items ∙ ap (λ l. l ++ 32 ∷ []) c.in_ok-write_number.ensures.ok ∙ append_assoc c.args.out.now.items (decimal c.args.id) (32 ∷ []))
    (simp append_assoc))

pub returns-in_err-push-2-clause-err : goal.returns-in_err-push-2-clause-err
returns-in_err-push-2-clause-err c =
    on_any_err c.from_residual-in_err-push-2.result
    (begins c.args.out.now.items c.push-2.new.self.items (decimal c.args.id ++ 32 ∷ value_text c.args.value) (10 ∷ []) (answer_line c.args.id c.args.value)
    (c.in_err-push-2.ensures.items ∙ c.in_ok-write_value.ensures.ok ∙ ap (λ l. l ++ value_text c.args.value) (c.in_ok-push.ensures.items ∙ ap (λ l. l ++ 32 ∷ []) c.in_ok-write_number.ensures.ok) ∙ (simp append_assoc))
    refl)
