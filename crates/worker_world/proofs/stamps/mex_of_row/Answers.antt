use Rattle.std.proofs.Common.{◌≡◌, ℕ, List, length, arith}
use Rattle.worker_world.specs.Placed.{placed_items}
use Rattle.worker_world.proofs.Stamping.{mex_is_unstamped, length_items}
use Rattle.worker_world.proofs.stamps.mex_of_row.Goals as goal

pub returns-clause-mex : goal.returns-clause-mex
returns-clause-mex c =
    let items : List ℕ = placed_items c.args.core.now c.args.values.now c.args.row.now in
    let count : length items ≡ length c.args.row.now = length_items c.args.core.now c.args.values.now c.args.row.now in
    mex_is_unstamped items c.stamp_row.new.marks c.args.stamp c.first_unstamped.result c.stamp_row.ensures.stamped (omega (arith, count)) (omega (arith, count, c.first_unstamped.ensures.within))
    c.first_unstamped.ensures.before
    (λ below. c.first_unstamped.ensures.at (omega (arith, count, below)))
