use Rattle.std.proofs.Common.{◌≡◌, ◌≤◌, ◌++◌, ◌∷◌, [], ◌∙◌, length, map, ap, arith}
use Rattle.std.proofs.lemmas.List.{length-map}
use Rattle.px_base.specs.declared.graph.Read.{Read}
use Rattle.px_base.specs.Graphs.{row_at, unit_read}
use Rattle.graph_forms.specs.Neighbours.{IsSetOf}
use Rattle.graph_forms.proofs.Ordered.{row_count_within}
use Rattle.graph_forms.proofs.OnceEach.{once_more}
use Rattle.graph_forms.proofs.units.add_row.Goals as goal

pub push_units-requires : goal.push_units-requires
push_units-requires c =
    let row = c.row.ensures.row in
    omega (
      arith,
      row_count_within c.args.more.now c.args.j c.requires.j,
      ap length c.deref.ensures.value,
      c.settle.ensures.fewer,
      ap length c.in_ok-copy_sources.ensures,
      length-map c.row.result (λ (r : Read). r.source),
      ap length c.row.ensures.row,
      ap length c.requires.open,
      c.requires.room,
    )

pub returns-clause-done : goal.returns-clause-done
returns-clause-done c = λ before are.
    let sources : c.copy_sources.new.members.items ≡ map (λ (r : Read). r.source) (row_at c.args.more.now c.args.j) = c.in_ok-copy_sources.ensures ∙ ap (map (λ (r : Read). r.source)) c.row.ensures.row in
    let set : IsSetOf (map (λ (r : Read). r.source) (row_at c.args.more.now c.args.j)) c.settle.new.members.items = rw sources at c.settle.ensures.set in
    let fewer : length c.settle.new.members.items ≤ length (row_at c.args.more.now c.args.j) =
    omega (arith, c.settle.ensures.fewer, ap length sources, length-map (row_at c.args.more.now c.args.j) (λ (r : Read). r.source)) in
    let made : c.push_units.new.rows.done ≡ c.args.rows.now.done ++ map unit_read c.settle.new.members.items ∷ [] =
    ap (λ b. b.done) c.in_ok-push_units.ensures ∙ (λ i. c.args.rows.now.done ++ (c.requires.open i ++ map unit_read (c.deref.ensures.value i)) ∷ []) in
    rw made (once_more before c.args.rows.now.done (row_at c.args.more.now c.args.j) c.settle.new.members.items are set fewer)
