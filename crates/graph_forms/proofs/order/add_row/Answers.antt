use Rattle.std.proofs.Common.{◌≡◌, ◌++◌, ◌∷◌, [], ◌∙◌, length, ap, arith}
use Rattle.std.proofs.lemmas.List.Elements.{All-same}
use Rattle.std.proofs.lemmas.List.Sorted.{All-permutation, length_permutation}
use Rattle.px_base.specs.declared.graph.Read.{Read}
use Rattle.px_base.specs.Values.{IsWeight}
use Rattle.px_base.specs.Graphs.{IsRowOf, row_at}
use Rattle.graph_forms.proofs.Ordered.{row_more, row_count_within}
use Rattle.graph_forms.proofs.order.add_row.Goals as goal

pub push_row-requires-clause-weights : goal.push_row-requires-clause-weights
push_row-requires-clause-weights c =
    All-same (λ (r : Read). IsWeight r.weight) c.deref.result.now c.put_in_order.new.reads.items c.deref.ensures.value
    (All-permutation (λ (r : Read). IsWeight r.weight) c.copy_row.new.reads.items c.put_in_order.new.reads.items c.put_in_order.ensures.same c.in_ok-copy_row.ensures.weights)

pub push_row-requires-clause-room : goal.push_row-requires-clause-room
push_row-requires-clause-room c =
    omega (
      arith,
      row_count_within c.args.more.now c.args.j c.requires.j,
      ap length c.deref.ensures.value,
      length_permutation c.copy_row.new.reads.items c.put_in_order.new.reads.items c.put_in_order.ensures.same,
      ap length c.in_ok-copy_row.ensures.reads,
      ap length c.row.ensures.row,
      ap length c.requires.open,
      c.requires.room,
    )

pub returns-clause-done : goal.returns-clause-done
returns-clause-done c = λ before are.
    let is : IsRowOf c.copy_row.new.reads.items c.put_in_order.new.reads.items = c.put_in_order.ensures in
    let row : IsRowOf (row_at c.args.more.now c.args.j) c.put_in_order.new.reads.items = rw (c.in_ok-copy_row.ensures.reads, c.row.ensures.row) at is in
    let made : c.push_row.new.rows.done ≡ c.args.rows.now.done ++ c.put_in_order.new.reads.items ∷ [] =
    ap (λ b. b.done) c.in_ok-push_row.ensures ∙ (λ i. c.args.rows.now.done ++ (c.requires.open i ++ c.deref.ensures.value i) ∷ []) in
    rw made (row_more before c.args.rows.now.done (row_at c.args.more.now c.args.j) c.put_in_order.new.reads.items are row)
