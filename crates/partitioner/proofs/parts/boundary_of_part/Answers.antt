use Rattle.partitioner.proofs.Boundaries.{boundary_named}
use Rattle.partitioner.proofs.parts.boundary_of_part.Goals as goal

pub returns : goal.returns
returns c = boundary_named c.boundary.result (λ v. v.items) c.args.graph.now.n c.args.graph.now.rows c.args.cuts.now.ends c.as_slice-ends.result.now c.args.i c.requires.cuts.cut c.requires.rows.one_each c.requires.part c.as_slice-ends.ensures c.boundary.ensures
