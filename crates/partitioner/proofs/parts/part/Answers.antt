use Rattle.partitioner.proofs.Fitting.{made, mirrors_within, part_fits, part_holds, fewer_reads, pieced}
use Rattle.px_base.specs.Graphs.{HasWeights, read_count}
use Rattle.px_base.specs.Values.{IsWeight}
use Rattle.px_base.specs.Parts.{PartFits, part_of, low_of, high_of}
use Rattle.std.proofs.Common.{◌≤◌}
use Rattle.std.specs.Prelude.{All}
use Rattle.partitioner.proofs.parts.part.Goals as goal

pub returns-clause-fits : goal.returns-clause-fits
returns-clause-fits c = made c.assemble.result (part_of c.args.graph.now.rows c.args.starts.now c.args.cuts.now.ends c.args.i) PartFits (pieced c.assemble.result c.args.graph.now.rows c.in_ok-own.own c.args.starts.now c.args.cuts.now.ends c.in_ok-mirrors.mirrors.items c.in_ok-boundary.boundary.items c.args.i c.in_ok-own.ensures c.in_ok-mirrors.ensures c.in_ok-boundary.ensures c.assemble.ensures)
    (part_fits c.args.graph.now.n c.args.graph.now.rows c.args.starts.now c.args.cuts.now.ends c.args.i c.requires.most c.requires.rows c.requires.one_each c.requires.values c.requires.cuts c.requires.part)

pub returns-clause-weights : goal.returns-clause-weights
returns-clause-weights c = made c.assemble.result (part_of c.args.graph.now.rows c.args.starts.now c.args.cuts.now.ends c.args.i) (λ part. HasWeights part.rows) (pieced c.assemble.result c.args.graph.now.rows c.in_ok-own.own c.args.starts.now c.args.cuts.now.ends c.in_ok-mirrors.mirrors.items c.in_ok-boundary.boundary.items c.args.i c.in_ok-own.ensures c.in_ok-mirrors.ensures c.in_ok-boundary.ensures c.assemble.ensures)
    (part_holds (λ row. All (λ r. IsWeight r.weight) row) c.args.graph.now.rows (low_of c.args.cuts.now.ends c.args.i) (high_of c.args.cuts.now.ends c.args.i) c.requires.rows.weights)

pub returns-clause-reads : goal.returns-clause-reads
returns-clause-reads c = made c.assemble.result (part_of c.args.graph.now.rows c.args.starts.now c.args.cuts.now.ends c.args.i) (λ part. read_count part.rows ≤ read_count c.args.graph.now.rows) (pieced c.assemble.result c.args.graph.now.rows c.in_ok-own.own c.args.starts.now c.args.cuts.now.ends c.in_ok-mirrors.mirrors.items c.in_ok-boundary.boundary.items c.args.i c.in_ok-own.ensures c.in_ok-mirrors.ensures c.in_ok-boundary.ensures c.assemble.ensures)
    (fewer_reads c.args.graph.now.rows (low_of c.args.cuts.now.ends c.args.i) (high_of c.args.cuts.now.ends c.args.i))

pub returns-clause-part : goal.returns-clause-part
returns-clause-part c = pieced c.assemble.result c.args.graph.now.rows c.in_ok-own.own c.args.starts.now c.args.cuts.now.ends c.in_ok-mirrors.mirrors.items c.in_ok-boundary.boundary.items c.args.i
    c.in_ok-own.ensures c.in_ok-mirrors.ensures c.in_ok-boundary.ensures c.assemble.ensures

pub assemble-requires-clause-mirrors : goal.assemble-requires-clause-mirrors
assemble-requires-clause-mirrors c = mirrors_within c.args.graph.now.rows c.args.starts.now c.args.cuts.now.ends c.in_ok-mirrors.mirrors.items c.args.graph.now.n c.args.i c.requires.one_each c.requires.rows c.in_ok-mirrors.ensures
