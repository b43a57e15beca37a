use Rattle.std.proofs.Common.{◌≡◌, ◌+◌, ◌-◌, ◌≤◌, ◌∙◌, ℕ, List, map, get_or, arith, ap}
use Rattle.std.specs.Prelude.{slice_range}
use Rattle.std.proofs.lemmas.List.Edits.{get_or-between}
use Rattle.px_base.proofs.FlatParts.{shifted, are_flat, rows_are}
use Rattle.px_base.proofs.rows.copied_range.Goals as goal

-- the first of the starts from low on is that of low
first_of : (starts : List ℕ) (low high : ℕ) → low ≤ high → get_or (slice_range starts low (high + 1)) 0 0 ≡ get_or starts low 0
first_of starts low high order = get_or-between starts low (high + 1) 0 0 (omega arith) ∙ ap (λ k. get_or starts k 0) (omega arith)

pub invariant_of-result : goal.invariant_of-result
invariant_of-result c =
    let starts = c.args.starts.now in
    let low = c.args.low in
    let high = c.args.high in
    let shifts : c.in_ok-from_first.field-0.items ≡ shifted starts low high =
    c.in_ok-from_first.ensures ∙ ap (λ b. map (λ s. s - b) (slice_range starts low (high + 1))) (first_of starts low high c.requires.order) in
    rw (shifts, c.in_ok-from_slice.ensures.items, c.in_ok-from_slice-2.ensures.items)
    (are_flat starts c.args.sources.now c.args.weights.now low high c.requires.flat c.requires.order (omega (arith, c.requires.inside)))

pub returns : goal.returns
returns c =
    let starts = c.args.starts.now in
    let low = c.args.low in
    let high = c.args.high in
    let shifts : c.in_ok-from_first.field-0.items ≡ shifted starts low high =
    c.in_ok-from_first.ensures ∙ ap (λ b. map (λ s. s - b) (slice_range starts low (high + 1))) (first_of starts low high c.requires.order) in
    rw (shifts, c.in_ok-from_slice.ensures.items, c.in_ok-from_slice-2.ensures.items)
    (rows_are starts c.args.sources.now c.args.weights.now low high c.requires.flat c.requires.order (omega (arith, c.requires.inside)))
