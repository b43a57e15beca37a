use Rattle.std.proofs.Common.{length, refl, ◌≤◌}
use Rattle.std.specs.Prelude.{All}
use Rattle.px_base.specs.Values.{IsWeight}
use Rattle.px_base.specs.Graphs.{HasWeights, read_count}
use Rattle.px_base.specs.Parts.{PartFits, part_of, part_count, low_of, high_of}
use Rattle.partitioner.proofs.Fitting.{part_fits, part_holds, fewer_reads}
use Rattle.partitioner.proofs.Routed.{each_position, routes_are}
use Rattle.partitioner.proofs.whole.parts_and_routes.Goals as goal

pub returns-clause-fits : goal.returns-clause-fits
returns-clause-fits c = each_position PartFits (part_count c.args.cuts.now.ends) (part_of c.args.rows.now c.args.starts.now c.args.cuts.now.ends) c.in_ok-parts.parts c.in_ok-parts.ensures
    (λ i below. part_fits (length c.args.rows.now) c.args.rows.now c.args.starts.now c.args.cuts.now.ends i c.requires.most c.requires.rows c.requires.one_each c.requires.values c.requires.cuts below)

pub returns-clause-weights : goal.returns-clause-weights
returns-clause-weights c = each_position (λ part. HasWeights part.rows) (part_count c.args.cuts.now.ends) (part_of c.args.rows.now c.args.starts.now c.args.cuts.now.ends) c.in_ok-parts.parts c.in_ok-parts.ensures
    (λ i below. part_holds (λ row. All (λ r. IsWeight r.weight) row) c.args.rows.now (low_of c.args.cuts.now.ends i) (high_of c.args.cuts.now.ends i) c.requires.rows.weights)

pub returns-clause-reads : goal.returns-clause-reads
returns-clause-reads c = each_position (λ part. read_count part.rows ≤ read_count c.args.rows.now) (part_count c.args.cuts.now.ends) (part_of c.args.rows.now c.args.starts.now c.args.cuts.now.ends) c.in_ok-parts.parts c.in_ok-parts.ensures
    (λ i below. fewer_reads c.args.rows.now (low_of c.args.cuts.now.ends i) (high_of c.args.cuts.now.ends i))

pub returns-clause-routes : goal.returns-clause-routes
returns-clause-routes c = routes_are c.in_ok-routes.routes.to (length c.args.rows.now) c.args.rows.now c.in_ok-lists.field-0.words.items c.as_slice.result.now c.args.cuts.now.ends c.as_slice.ensures.value refl c.in_ok-lists.ensures.size
    c.in_ok-lists.ensures.bits c.in_ok-routes.ensures
