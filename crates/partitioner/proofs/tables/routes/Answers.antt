use Rattle.std.proofs.Common.{refl, length}
use Rattle.partitioner.proofs.Routed.{routes_named}
use Rattle.partitioner.proofs.tables.routes.Goals as goal

pub returns : goal.returns
returns c = routes_named c.bit_table.result (λ table. table.to) (length c.args.graph.now.rows) c.args.graph.now.rows c.in_ok-all.all.words.items c.as_slice.result.now c.args.cuts.now.ends c.as_slice.ensures.value refl c.in_ok-all.ensures.size
    c.in_ok-all.ensures.bits c.bit_table.ensures
