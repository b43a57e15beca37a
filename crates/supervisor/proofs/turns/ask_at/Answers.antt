use Rattle.std.proofs.Common.{◌∙◌, ap, sym}
use Rattle.std.specs.Prelude.{Ok}
use Rattle.system_core.specs.Promises.{IsHandedOut}
use Rattle.driver_laws.proofs.Fitting.{gave_fits}
use Rattle.driver_laws.proofs.Moves.{stop_fits, stop_over, stop_turn, works_turn, works_went}
use Rattle.supervisor.proofs.turns.ask_at.Goals as goal

-- ---- an order

pub work_at-requires-clause-given : goal.work_at-requires-clause-given
work_at-requires-clause-given g c κs within = c.in-Ok-Work.ensures.work c.in-Ok-Work.given (ap Ok c.in-Ok-Work.field-0-is)

pub work_at-requires-clause-fits : goal.work_at-requires-clause-fits
work_at-requires-clause-fits g c κs within = rw c.in-Ok-Work.ensures.gave (gave_fits c.args.system.now c.args.i c.requires.free (g.S.Spawner.shown c.args.spawner.now) (g.S.L.Link.shown c.args.own) c.requires.fits)

handed : (g : _) (c : goal.After-work_at g) → IsHandedOut c.give.new.self c.args.i c.in-Ok-Work.given
handed g c = c.in-Ok-Work.ensures.work c.in-Ok-Work.given (ap Ok c.in-Ok-Work.field-0-is)

pub returns-in-Ok-Work-clause-turn : goal.returns-in-Ok-Work-clause-turn
returns-in-Ok-Work-clause-turn g c = works_turn c.args.system.now c.give.new.self c.args.i c.known.ensures.facts (c.requires.inside, c.requires.fits.live, c.requires.idle) c.in-Ok-Work.ensures.gave
    c.work_at.new.system c.in-Ok-Work.given (handed g c) c.work_at.ensures.reply c.work_at.ensures.idle

pub returns-in-Ok-Work-clause-went : goal.returns-in-Ok-Work-clause-went
returns-in-Ok-Work-clause-went g c = works_went c.args.system.now c.give.new.self c.args.i c.known.ensures.facts (c.requires.inside, c.requires.fits.live, c.requires.idle) c.in-Ok-Work.ensures.gave
    c.work_at.new.system c.in-Ok-Work.given (handed g c) c.work_at.ensures.reply c.work_at.ensures.idle c.work_at.result c.work_at.ensures.went

-- ---- a reason to stop

pub returns-in-Ok-Stop-clause-turn : goal.returns-in-Ok-Stop-clause-turn
returns-in-Ok-Stop-clause-turn g c = stop_turn c.args.system.now c.give.new.self c.args.i c.known.ensures.facts (c.requires.inside, c.requires.fits.live, c.requires.idle) c.requires.free c.in-Ok-Stop.ensures.gave
    c.in-Ok-Stop.field-0-0 (sym c.in-Ok-Stop.field-0-is ∙ c.in-Ok-Stop.ensures.turn)

pub returns-in-Ok-Stop-clause-fits : goal.returns-in-Ok-Stop-clause-fits
returns-in-Ok-Stop-clause-fits g c = stop_fits c.args.system.now c.give.new.self c.args.i c.known.ensures.facts (c.requires.inside, c.requires.fits.live, c.requires.idle) c.requires.free c.in-Ok-Stop.ensures.gave
    c.in-Ok-Stop.field-0-0 (sym c.in-Ok-Stop.field-0-is ∙ c.in-Ok-Stop.ensures.turn) (g.S.Spawner.shown c.args.spawner.now) (g.S.L.Link.shown c.args.own) c.requires.fits

pub returns-in-Ok-Stop-clause-went : goal.returns-in-Ok-Stop-clause-went
returns-in-Ok-Stop-clause-went g c = stop_over c.args.system.now c.give.new.self c.args.i c.known.ensures.facts (c.requires.inside, c.requires.fits.live, c.requires.idle) c.requires.free c.in-Ok-Stop.ensures.gave
    c.in-Ok-Stop.field-0-0 (sym c.in-Ok-Stop.field-0-is ∙ c.in-Ok-Stop.ensures.turn)
