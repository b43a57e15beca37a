use Rattle.std.proofs.Common.{◌≡◌, ◌++◌}
use Rattle.std.specs.Prelude.{flat_map, slice_index}
use Rattle.px_base.specs.Values.{positions_below}
use Rattle.px_base.specs.Text.{answer_line}
use Rattle.command_texts.proofs.answer_texts.answer_text.Given as goal

-- the lines of the vertices so far
abbrev pub invariant-loop-at : goal.invariant-loop-at
invariant-loop-at l = l.out.items ≡ l.fn.out.items ++ flat_map (λ v. answer_line (slice_index l.ids v) (slice_index l.values v)) (positions_below l.at)
