use Rattle.std.proofs.Common.{◌≡◌, ◌<◌, ◌∙◌, get_or, length, refl, subst, sym}
use Rattle.px_base.specs.Values.{IsValue}
use Rattle.px_base.specs.Rules.{pull}
use Rattle.ordered_solver.proofs.Pulled.{pull_in_range}
use Rattle.ordered_solver.proofs.Settled.{all_settled, is_pull, settled_more, values_stay}
use Rattle.ordered_solver.proofs.solve.settle.Goals as goal

pub loop-turn-preserved : goal.loop-turn-preserved
loop-turn-preserved c =
    let p = c.args.program.now in
    let rows = c.args.rows.now in
    let starts = c.args.starts.now in
    let order = c.args.order.now in
    let before = c.loop-turn.values.items in
    let i = c.loop-turn.invariant in
    let v = get_or order c.loop-turn.turn 0 in
    let is : c.pulled.result ≡ pull p rows starts before v =
    is_pull p rows starts before c.as_slice.result.now v c.pulled.result c.row-row.result c.pulled.ensures.value c.as_slice.ensures.value c.row-row.ensures.row in
    record {
      values = values_stay (length rows) before v c.pulled.result i.values
          (subst IsValue (sym is) (pull_in_range p rows starts before v c.requires.rows.weights c.requires.reads c.requires.starts.in_range i.values.in_range));
      settled = settled_more p rows starts order before c.loop-turn.turn v c.pulled.result c.requires.order c.loop-turn-test.true i.values.one_each refl is i.settled;
      old = c.pulled.ensures.old;
      room = c.pulled.ensures.room ∙ i.room;
    }

pub returns : goal.returns
returns c =
    let i = c.loop-turn.invariant in
    all_settled c.args.program.now c.args.rows.now c.args.starts.now c.args.order.now c.loop-turn.values.items c.loop-turn.turn c.requires.order c.loop-turn-test.false i.values i.settled
