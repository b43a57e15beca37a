use Rattle.std.proofs.Common.{[], ◌<◌, ap, arith, length, sym, ◌∙◌}
use Rattle.std.specs.Ordering.{nat_cmp, ord_max}
use Rattle.std.proofs.lemmas.List.{get_or_default}
use Rattle.px_base.specs.Graphs.{row_at}
use Rattle.ordered_solver.proofs.Pulled.{longest_all, longest_more}
use Rattle.ordered_solver.proofs.solve.longest_row.Goals as goal

pub loop-v-preserved : goal.loop-v-preserved
loop-v-preserved c =
    let rows = c.args.rows.now in
    let v = c.loop-v.v in
    let inside : v < length rows = omega (arith, c.row_count-v-end.ensures) in
    longest_more rows v c.loop-v.longest c.max-longest.result (row_at rows v) inside (sym (get_or_default rows v (row_at rows v) [] inside))
    (c.max-longest.ensures ∙ ap (ord_max nat_cmp c.loop-v.longest) (c.len.ensures ∙ ap length c.row.ensures.row)) c.loop-v.invariant

pub returns : goal.returns
returns c = longest_all c.args.rows.now c.loop-v.v c.loop-v.longest (omega (arith, c.loop-v-test.false, c.row_count-v-end.ensures)) c.loop-v.invariant
