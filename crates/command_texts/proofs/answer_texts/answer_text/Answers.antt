use Rattle.std.proofs.Common.{◌++◌, ◌∙◌, ap, sym, append_assoc, length}
use Rattle.std.specs.Prelude.{flat_map, slice_index, ℕ, List}
use Rattle.px_base.specs.Values.{positions_below}
use Rattle.px_base.specs.Text.{answer_line, answer_text}
use Rattle.command_ends.proofs.Growing.{on_any_err}
use Rattle.command_texts.proofs.GrowingText.{begins_more, lines_split, lines_more}
use Rattle.command_texts.proofs.answer_texts.answer_text.Goals as goal

pub returns-in_err-answer_line-clause-err : goal.returns-in_err-answer_line-clause-err
returns-in_err-answer_line-clause-err c =
    let line : ℕ → List ℕ = λ v. answer_line (slice_index c.args.ids.now v) (slice_index c.args.values.now v) in
    on_any_err c.from_residual.result
    (begins_more c.args.out.now.items c.loop-at.out.items c.answer_line.new.out.items (flat_map line (positions_below c.loop-at.at)) (line c.loop-at.at) _ (answer_text c.args.ids.now c.args.values.now)
    c.loop-at.invariant c.in_err-answer_line.ensures.err (lines_split line c.loop-at.at (length c.args.ids.now) c.loop-at-test.true))

pub loop-at-preserved : goal.loop-at-preserved
loop-at-preserved c =
    let line : ℕ → List ℕ = λ v. answer_line (slice_index c.args.ids.now v) (slice_index c.args.values.now v) in
    c.in_ok-answer_line.ensures.ok ∙ ap (λ l. l ++ line c.loop-at.at) c.loop-at.invariant
    ∙ append_assoc c.args.out.now.items (flat_map line (positions_below c.loop-at.at)) (line c.loop-at.at)
    ∙ ap (λ l. c.args.out.now.items ++ l) (sym (lines_more line c.loop-at.at))
