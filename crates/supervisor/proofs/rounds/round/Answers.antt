use Rattle.std.proofs.Common.{◌<◌, ◌∙◌, arith}
use Rattle.hub_terms.specs.Hubs.{worker_count}
use Rattle.driver_laws.proofs.Stays.{run_on, turn_kept, turn_run}
use Rattle.driver_laws.proofs.Tune.{count_same, marks_set, moved_more, round_nearer, tune_at, tune_set}
use Rattle.supervisor.proofs.rounds.round.Goals as goal

pub turn_at-requires-clause-fits : goal.turn_at-requires-clause-fits
turn_at-requires-clause-fits g c κs within =
    tune_at g.S.Spawner.shown g.S.L.Link.shown c.loop-i.spawners.items c.loop-i.links.items c.loop-i.i c.index_mut-spawner.result.now c.index_mut-link.result.now c.loop-i.system c.loop-i.invariant.tune
    (omega (arith, count_same c.args.system.now c.loop-i.system c.loop-i.invariant.moved.run)) c.index_mut-spawner.ensures.value c.index_mut-link.ensures.value

pub returns-then-turn_at-clause-run : goal.returns-then-turn_at-clause-run
returns-then-turn_at-clause-run g c = run_on c.args.system.now c.loop-i.system c.turn_at.new.system c.loop-i.invariant.moved.run (turn_run c.loop-i.system c.turn_at.new.system c.loop-i.i c.turn_at.ensures.turn)

pub returns-then-turn_at-clause-tune : goal.returns-then-turn_at-clause-tune
returns-then-turn_at-clause-tune g c =
    tune_set g.S.Spawner.shown g.S.L.Link.shown c.loop-i.spawners.items c.loop-i.links.items c.loop-i.i c.index_mut-spawner.result.now c.index_mut-link.result.now c.loop-i.system c.loop-i.invariant.tune
    (omega (arith, count_same c.args.system.now c.loop-i.system c.loop-i.invariant.moved.run)) c.index_mut-spawner.ensures.value c.index_mut-link.ensures.value
    c.turn_at.new.system c.turn_at.new.spawner c.turn_at.new.link c.loop-i.invariant.kept c.turn_at.ensures.turn c.turn_at.ensures.fits

pub returns-then-turn_at-clause-marks : goal.returns-then-turn_at-clause-marks
returns-then-turn_at-clause-marks g c =
    marks_set g.S.Spawner.shown g.S.L.Link.shown c.loop-i.spawners.items c.loop-i.links.items c.loop-i.i c.index_mut-spawner.result.now c.index_mut-link.result.now c.loop-i.system c.loop-i.invariant.tune
    (omega (arith, count_same c.args.system.now c.loop-i.system c.loop-i.invariant.moved.run)) c.index_mut-spawner.ensures.value c.index_mut-link.ensures.value
    c.turn_at.new.spawner c.turn_at.ensures.mark ∙ c.loop-i.invariant.marks

pub loop-i-preserved : goal.loop-i-preserved
loop-i-preserved g c =
    let inside : c.loop-i.i < worker_count c.loop-i.system.hub = omega (arith, count_same c.args.system.now c.loop-i.system c.loop-i.invariant.moved.run) in
    record {
      kept = turn_kept c.loop-i.system c.turn_at.new.system c.loop-i.i c.loop-i.invariant.kept c.turn_at.ensures.turn;
      moved = moved_more c.args.system.now c.loop-i.system c.turn_at.new.system c.loop-i.i c.loop-i.invariant.moved c.turn_at.ensures.turn c.if-turn_at.ensures.went;
      tune = tune_set g.S.Spawner.shown g.S.L.Link.shown c.loop-i.spawners.items c.loop-i.links.items c.loop-i.i c.index_mut-spawner.result.now c.index_mut-link.result.now c.loop-i.system c.loop-i.invariant.tune
          inside c.index_mut-spawner.ensures.value c.index_mut-link.ensures.value c.turn_at.new.system c.turn_at.new.spawner c.turn_at.new.link c.loop-i.invariant.kept c.turn_at.ensures.turn c.turn_at.ensures.fits;
      marks = marks_set g.S.Spawner.shown g.S.L.Link.shown c.loop-i.spawners.items c.loop-i.links.items c.loop-i.i c.index_mut-spawner.result.now c.index_mut-link.result.now c.loop-i.system c.loop-i.invariant.tune
          inside c.index_mut-spawner.ensures.value c.index_mut-link.ensures.value c.turn_at.new.spawner c.turn_at.ensures.mark ∙ c.loop-i.invariant.marks;
    }

pub returns-clause-went : goal.returns-clause-went
returns-clause-went g c = round_nearer c.args.system.now c.loop-i.system c.loop-i.i c.known.ensures.facts c.requires.free c.requires.tune.idle (omega arith) c.loop-i.invariant.moved
