use Rattle.std.proofs.Common.{◌≡◌, ◌<◌, ◌∙◌, length, ap, arith}
use Rattle.px_base.specs.declared.graph.Read.{Read}
use Rattle.px_base.specs.FlatRows.{read_at, read_with}
use Rattle.core_solver.specs.Peelings.{with_read_less}
use Rattle.core_solver.proofs.Peeled.{taken_at}
use Rattle.core_solver.proofs.peeling.Peeling.take_reads.Goals as goal

pub loop-k-preserved : goal.loop-k-preserved
loop-k-preserved c =
    let i = c.loop-k.invariant in
    let inside : c.loop-k.k < length c.args.row.now = omega (arith, c.len-k-end.ensures) in
    let taken = c.in_ok-take_read.ensures ∙ ap (λ (r : Read). with_read_less c.args.needed c.loop-k.self r.source) c.read.ensures.read in
    let step = taken_at c.args.needed c.args.rows.now c.args.row.now c.loop-k.k (read_with 0 0) c.loop-k.self c.take_read.new.self c.requires.mutual c.requires.sources inside i.peeling i.enough taken in
    record { peeling = step.peeling; enough = step.enough; work = step.work ∙ i.work }
