use Rattle.std.proofs.Common.{rules, ◌≡◌, true, false}
use Rattle.consistent_solver.proofs.Sweeping.{before_sweeps, swept_again}
use Rattle.consistent_solver.proofs.sweeps.sweep_some.Goals as goal

pub loop-turn-init : goal.loop-turn-init
loop-turn-init c = before_sweeps c.args.core.now c.args.rows.now c.args.values.now c.args.fell.now c.requires.rows c.requires.values c.requires.marks c.requires.told

pub loop-turn-preserved : goal.loop-turn-preserved
loop-turn-preserved c =
    let changed : c.sweep.result ≡ true = search rules in
    let swept = swept_again c.args.core.now c.args.rows.now c.args.values.now c.loop-turn.values c.sweep.new.values c.sweep.new.fell c.sweep.result c.loop-turn.invariant.lowered c.sweep.ensures in
    rw changed at swept

pub returns-then-not-sweep : goal.returns-then-not-sweep
returns-then-not-sweep c =
    let same : c.sweep.result ≡ false = search rules in
    let swept = swept_again c.args.core.now c.args.rows.now c.args.values.now c.loop-turn.values c.sweep.new.values c.sweep.new.fell c.sweep.result c.loop-turn.invariant.lowered c.sweep.ensures in
    rw same at swept
