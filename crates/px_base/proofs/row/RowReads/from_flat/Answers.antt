use Rattle.std.proofs.Common.{◌<◌, length, arith, rules}
use Rattle.px_base.proofs.FlatReads.{length-reads_in, get_or-reads_in}
use Rattle.px_base.proofs.row.RowReads.from_flat.Goals as goal

pub returns-clause-weights : goal.returns-clause-weights
returns-clause-weights c = λ k d inside.
    let here : k < length c.args.sources.now = omega (arith, inside, length-reads_in c.args.sources.now c.args.weights.now c.requires) in
    rw (get_or-reads_in c.args.sources.now c.args.weights.now k d here (omega (arith, c.requires))) (search (rules, c.type_inv.weights k))
