use Rattle.std.proofs.Common.{◌≡◌, ◌+◌, ◌<◌, ◌++◌, ◌∷◌, [], ◌∙◌, List, length, ap, sym, arith}
use Rattle.std.proofs.lemmas.List.Sums.{length-filter, count_by-le-length, sum_by_push}
use Rattle.px_base.specs.declared.graph.Read.{Read}
use Rattle.px_base.specs.Values.{by_position}
use Rattle.px_base.specs.Graphs.{read_count, row_at, stands_before}
use Rattle.px_base.proofs.Positions.{by_position_more}
use Rattle.graph_forms.specs.Ordering.{earlier_reads}
use Rattle.graph_forms.proofs.Ordered.{row_count_more}
use Rattle.graph_forms.proofs.keep.earlier_rows.Goals as goal

pub loop-v-preserved : goal.loop-v-preserved
loop-v-preserved c =
    let rows = c.args.rows.now in
    let v = c.loop-v.v in
    let f = earlier_reads c.args.rank c.args.degrees.now rows in
    let inside : v < length rows = omega (arith, c.row_count-v-end.ensures) in
    let done : c.keep_row.new.kept.done ≡ c.loop-v.kept.done ++ f v ∷ [] = ap (λ b. b.done) c.in_ok-keep_row.ensures in
    let next : c.loop-v.kept.done ++ f v ∷ [] ≡ by_position (v + 1) f = ap (λ b. b.done ++ f v ∷ []) c.loop-v.invariant.made ∙ sym (by_position_more v f) in
    record {
      made = c.in_ok-keep_row.ensures ∙ (λ i. record { done = next i; open_row = [] });
      fewer = omega (
        arith,
        ap read_count done,
        sum_by_push (λ (row : List Read). length row) c.loop-v.kept.done (f v),
        length-filter (λ r. stands_before c.args.rank c.args.degrees.now r.source v) (row_at rows v),
        count_by-le-length (λ r. stands_before c.args.rank c.args.degrees.now r.source v) (row_at rows v),
        row_count_more rows v inside,
        c.loop-v.invariant.fewer,
      );
    }
