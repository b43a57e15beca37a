use Rattle.std.proofs.Common.{[], ap}
use Rattle.graph_forms.specs.Ordering.{AreRowsOf}
use Rattle.graph_forms.proofs.order.in_order.Goals as goal

pub returns : goal.returns
returns c =
    let none : AreRowsOf [] c.in_ok-ordered.ordered.done = rw (ap (λ b. b.done) c.in_ok-ordered.ensures) tt in
    rw c.finish.ensures (c.in_ok-add_rows.ensures.done [] none)
