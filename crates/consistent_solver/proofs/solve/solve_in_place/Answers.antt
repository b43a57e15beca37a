use Rattle.std.proofs.Common.{length}
use Rattle.consistent_solver.proofs.Sweeping.{solved}
use Rattle.consistent_solver.proofs.Turning.{turned_values}
use Rattle.consistent_solver.proofs.solve.solve_in_place.Goals as goal

pub settle-requires-clause-values : goal.settle-requires-clause-values
settle-requires-clause-values c = rw c.turn.ensures (turned_values c.core_form-core.result (length c.args.rows.now) c.args.values.now c.requires.starts)

pub returns : goal.returns
returns c =
    solved c.args.program.now c.args.rows.now c.args.values.now c.core_form-core.result c.turn.new.values c.settle.new.values c.turn-2.new.values c.requires.class c.requires.rows c.requires.starts
    c.core_form-core.ensures c.turn.ensures c.in_ok-settle.ensures c.turn-2.ensures
