use Rattle.std.proofs.Common.{◌≡◌, ◌∙◌, length, ap, arith, sym}
use Rattle.px_base.specs.Values.{by_position}
use Rattle.px_base.specs.Graphs.{reads_of}
use Rattle.px_base.proofs.Positions.{length_by_position}
use Rattle.graph_forms.specs.Ordering.{earlier_reads}
use Rattle.graph_forms.proofs.Graphs as graphs
use Rattle.graph_forms.proofs.graph.graph_of_earlier.Goals as goal

pub earlier_rows-requires : goal.earlier_rows-requires
earlier_rows-requires c = omega (arith, ap length c.in_ok-all.ensures, length_by_position c.args.n (reads_of c.args.form c.args.n c.args.edges.now), c.ranges.n.fits)

pub in_order-requires : goal.in_order-requires
in_order-requires c =
    omega (
      arith,
      ap length c.in_ok-all.ensures,
      length_by_position c.args.n (reads_of c.args.form c.args.n c.args.edges.now),
      ap length c.in_ok-kept.ensures,
      length_by_position (length c.in_ok-all.all) (earlier_reads c.args.rank c.deref.result.now c.in_ok-all.all),
      c.ranges.n.fits,
    )

pub returns : goal.returns
returns c =
    let same : c.from_vec.result ≡ c.in_ok-degrees.degrees.items = c.from_vec.ensures in
    let kept : c.in_ok-kept.kept ≡ by_position (length c.in_ok-all.all) (earlier_reads c.args.rank c.from_vec.result c.in_ok-all.all) =
    c.in_ok-kept.ensures ∙ ap (λ d. by_position (length c.in_ok-all.all) (earlier_reads c.args.rank d c.in_ok-all.all)) (c.deref.ensures.value ∙ sym same) in
    graphs.graph_of_earlier c.args.form c.args.rank c.args.n c.args.edges.now c.in_ok-all.all c.in_ok-kept.kept c.in_ok-rows.rows c.from_vec.result c.in_ok-all.ensures (same ∙ c.in_ok-degrees.ensures) kept c.in_ok-rows.ensures
