use Rattle.std.proofs.Common.{◌≡◌, ◌<◌, ◌∙◌, ap, arith, length, get_or, refl, []}
use Rattle.std.proofs.lemmas.List.{get_or_read_under}
use Rattle.px_base.specs.Graphs.{row_at}
use Rattle.px_base.specs.Rules.{least}
use Rattle.consistent_solver.specs.Sweeps.{core_edge_values, lowered_at}
use Rattle.consistent_solver.proofs.Sweeping.{none_swept, swept_lower, swept_still}
use Rattle.consistent_solver.proofs.sweeps.sweep.Goals as goal
use Rattle.consistent_solver.proofs.sweeps.sweep.Goals.{then-least-own, else-least-own}

pub loop-v-init : goal.loop-v-init
loop-v-init c = none_swept c.args.core.now c.args.rows.now c.args.values.now c.args.fell.now c.requires.values c.requires.marks

pub loop-v-preserved : goal.loop-v-preserved
loop-v-preserved c =
    let inside : c.loop-v.v < length c.args.rows.now = omega (arith, c.row_count-v-end.ensures) in
    let row : c.row.result ≡ row_at c.args.rows.now c.loop-v.v = c.row.ensures.row in
    let is : c.lowered-least.result ≡ lowered_at c.args.core.now c.args.rows.now c.loop-v.values c.loop-v.v =
    c.lowered-least.ensures ∙ ap (λ reads. least (get_or c.loop-v.values c.loop-v.v 0) (core_edge_values c.args.core.now c.loop-v.values reads)) row in
    elim c.if-least-own.branch [
      | then-least-own w ↦ rw (w.values-is, w.fell-is, w.changed-is)
          (swept_lower c.args.core.now c.args.rows.now c.loop-v.v c.args.values.now c.loop-v.values c.loop-v.fell c.loop-v.changed c.lowered-least.result c.requires.fold inside c.loop-v.invariant is (omega arith))
      | else-least-own w ↦ rw (w.values-is, w.fell-is, w.changed-is)
          (swept_still c.args.core.now c.args.rows.now c.loop-v.v c.args.values.now c.loop-v.values c.loop-v.fell c.loop-v.changed c.lowered-least.result inside c.loop-v.invariant is (omega arith))
    ]
