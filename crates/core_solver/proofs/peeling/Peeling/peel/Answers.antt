use Rattle.std.proofs.Common.{◌≡◌, List, [], ◌∙◌, subst, sym}
use Rattle.px_base.specs.declared.graph.Read.{Read}
use Rattle.px_base.specs.Graphs.{row_at}
use Rattle.core_solver.specs.Peelings.{IsPeeling, PeelState}
use Rattle.core_solver.proofs.Peeled.{popped}
use Rattle.core_solver.proofs.peeling.Peeling.peel.Goals as goal

pub take_reads-requires-clause-peeling : goal.take_reads-requires-clause-peeling
take_reads-requires-clause-peeling c =
    let k = c.args.needed in
    let rows = c.args.rows.now in
    let v = c.in-Some.v in
    let before : PeelState = record { alive = c.self.inside.alive.items; counts = c.self.inside.counts.items; dead = c.self.inside.dead.items } in
    let after : PeelState = record { alive = c.self.inside.alive.items; counts = c.self.inside.counts.items; dead = c.pop.new.self.items } in
    let known : IsPeeling k rows [] before = subst (λ (s : PeelState). IsPeeling k rows [] s) (sym c.self.view_is) c.loop-v.invariant.peeling in
    let next = popped k rows before c.pop.new.self.items v c.in-Some.ensures.items known in
    let row : c.row.result ≡ row_at rows v = c.row.ensures.row in
    subst (λ (reads : List Read). IsPeeling k rows reads after) (sym row) next.1
