use Rattle.std.proofs.Common.{◌+◌, length, take, ap, arith}
use Rattle.std.proofs.lemmas.List.{length-take}
use Rattle.std.proofs.lemmas.List.Sums.{length-filter, count_by-le-length}
use Rattle.px_base.specs.FlatRows.{OpenRows}
use Rattle.px_base.specs.Graphs.{read_count, row_at, stands_before}
use Rattle.graph_forms.proofs.Ordered.{row_count_within}
use Rattle.graph_forms.proofs.keep.keep_row.Goals as goal

pub push-requires : goal.push-requires
push-requires c =
    let row = row_at c.args.rows.now c.args.v in
    omega (
      arith,
      ap (λ (b : OpenRows). read_count b.done + length b.open_row) c.loop-k.invariant,
      length-filter (λ r. stands_before c.args.rank c.args.degrees.now r.source c.args.v) (take c.loop-k.k row),
      count_by-le-length (λ r. stands_before c.args.rank c.args.degrees.now r.source c.args.v) (take c.loop-k.k row),
      length-take c.loop-k.k row,
      c.requires.room,
      row_count_within c.args.rows.now c.args.v c.requires.v,
      c.read_count-most.ensures.count,
      c.read_count-most.ensures.most,
      c.len-k-end.ensures,
      ap length c.row-row.ensures.row,
    )
