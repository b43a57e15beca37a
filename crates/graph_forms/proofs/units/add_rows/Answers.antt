use Rattle.std.proofs.Common.{◌++◌, List, length, take, arith}
use Rattle.std.proofs.lemmas.List.Sums.{sum_by-append}
use Rattle.px_base.specs.declared.graph.Read.{Read}
use Rattle.graph_forms.proofs.OnceEach.{fewer_count}
use Rattle.graph_forms.proofs.units.add_rows.Goals as goal

pub add_row-requires-clause-room : goal.add_row-requires-clause-room
add_row-requires-clause-room c =
    let before = c.requires.some.0 in
    let so_far = take c.loop-j.j c.args.more.now in
    omega (
      arith,
      c.requires.some.2,
      fewer_count (before ++ so_far) c.loop-j.rows.done (c.loop-j.invariant.done before c.requires.some.1),
      sum_by-append (λ (row : List Read). length row) before so_far,
    )
