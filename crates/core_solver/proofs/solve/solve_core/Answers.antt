use Rattle.std.proofs.Common.{refl}
use Rattle.core_solver.proofs.Peeled.{core_as, is_core}
use Rattle.core_solver.proofs.solve.solve_core.Goals as goal

pub returns : goal.returns
returns c =
    let rows = c.args.graph.now.rows in
    let done = c.in_ok-peel.ensures in
    core_as c.args.needed rows c.args.graph.now.rows c.peel.new.self.alive c.into_alive.result.items refl c.into_alive.ensures
    (is_core c.args.needed rows c.peel.new.self done.peeling done.enough done.done)
