use Rattle.std.proofs.Common.{◌≡◌, Err, None, Some, ap}
use Rattle.std.specs.Option.{option_map}
use Rattle.px_base.specs.declared.wire.Broken.TheVariants as broken
use Rattle.px_base.specs.declared.wire.LossKind.TheVariants.{Ended, Broke}
use Rattle.hub_terms.specs.declared.stops.Halt.TheVariants.{Memory}
use Rattle.hub_terms.specs.Systems.{halt, lost, state_after}
use Rattle.driver_laws.proofs.Taking.{honest_answer, is_asked, tells_peer, took_fits, took_idle}
use Rattle.driver_laws.proofs.Moves.{Replied, after_same, answered_replied, broke_cause, ended_cause, gave_up_replied, lost_replied, refused_same}
use Rattle.supervisor.proofs.turns.work_at.Goals as goal

-- ---- the worker answers

answered : (g : _) (c : goal.Joined-answer g) → Replied c.args.i c.args.system.now c.took.new.self (g.S.Spawner.shown c.args.spawner.now) (option_map g.S.L.Link.shown (Some c.call.new.self))
answered g c =
    let s = c.args.system.now in
    let i = c.args.i in
    let p = g.S.Spawner.shown c.args.spawner.now in
    let l = g.S.L.Link.shown c.args.own in
    let m = g.S.L.Link.shown c.call.new.self in
    let kept = c.known.ensures.facts in
    let handed = c.requires.given in
    let fit = c.requires.fits in
    answered_replied s c.took.new.self i c.in-Ok.answer p m c.took.new.self.hub
    (c.requires.inside, is_asked s i c.args.given kept p l handed fit, c.in-Ok.ensures.ok.values, honest_answer s i c.args.given kept p l handed fit c.in-Ok.answer c.in-Ok.ensures.ok.honest)
    c.in-Ok-took.ensures.answer c.took.ensures.took
    (took_fits s i c.args.given kept p l handed fit c.in-Ok.answer m c.took.new.self.hub c.requires.inside c.in-Ok.ensures.ok c.in-Ok.ensures.same c.in-Ok-took.ensures.answer)
    (took_idle s i c.args.given kept p l handed fit c.in-Ok.answer m c.took.new.self.hub c.requires.inside c.in-Ok.ensures.ok c.in-Ok.ensures.same c.in-Ok-took.ensures.answer)

pub returns-in-Ok-took-clause-reply : goal.returns-in-Ok-took-clause-reply
returns-in-Ok-took-clause-reply g c = (answered g c).reply

pub returns-in-Ok-took-clause-idle : goal.returns-in-Ok-took-clause-idle
returns-in-Ok-took-clause-idle g c = (answered g c).idle

pub returns-in-Ok-took-clause-fits : goal.returns-in-Ok-took-clause-fits
returns-in-Ok-took-clause-fits g c = (answered g c).fits

-- ---- the hub refuses its answer

refused : (g : _) (c : goal.Joined-answer-2 g) → Replied c.args.i c.args.system.now c.lose.new.system (g.S.Spawner.shown c.lose.new.spawner) None
refused g c =
    let s = c.args.system.now in
    let kind = broken.Foreign c.in-Err.foreign in
    let same : c.took.new.self ≡ s = refused_same s c.took.new.self c.args.i c.in-Ok.answer c.in-Err.foreign c.took.ensures.took c.in-Err.ensures.answer in
    lost_replied s c.lose.new.system c.args.i c.known.ensures.facts c.requires.inside (g.S.Spawner.shown c.args.spawner.now) (g.S.Spawner.shown c.lose.new.spawner) (g.S.L.Link.shown c.args.own) (g.S.L.Link.shown c.call.new.self)
    c.requires.fits c.lose.ensures.spawner (Broke kind) (broke_cause s kind (g.S.L.Link.shown c.call.new.self) (λ tells. cc (c.in-Err.ensures.honest tells)))
    (after_same s c.took.new.self c.lose.new.system (lost c.args.i (Broke kind)) same c.lose.ensures.lost)

pub returns-in-Ok-clause-reply : goal.returns-in-Ok-clause-reply
returns-in-Ok-clause-reply g c = (refused g c).reply

pub returns-in-Ok-clause-fits : goal.returns-in-Ok-clause-fits
returns-in-Ok-clause-fits g c = rw c.requires.none (refused g c).fits

-- ---- its link has ended

ended : (g : _) (c : goal.After-lose-in-Err-Ended g) → Replied c.args.i c.args.system.now c.lose-in-Err-Ended.new.system (g.S.Spawner.shown c.lose-in-Err-Ended.new.spawner) None
ended g c =
    lost_replied c.args.system.now c.lose-in-Err-Ended.new.system c.args.i c.known.ensures.facts c.requires.inside (g.S.Spawner.shown c.args.spawner.now) (g.S.Spawner.shown c.lose-in-Err-Ended.new.spawner) (g.S.L.Link.shown c.args.own) (g.S.L.Link.shown c.call.new.self)
    c.requires.fits c.lose-in-Err-Ended.ensures.spawner Ended (ended_cause c.args.system.now (g.S.L.Link.shown c.args.own) (g.S.L.Link.shown c.call.new.self) (c.in-Err-Ended.ensures.ended (ap Err c.in-Err-Ended.field-0-is))) c.lose-in-Err-Ended.ensures.lost

pub returns-in-Err-Ended-clause-reply : goal.returns-in-Err-Ended-clause-reply
returns-in-Err-Ended-clause-reply g c = (ended g c).reply

pub returns-in-Err-Ended-clause-fits : goal.returns-in-Err-Ended-clause-fits
returns-in-Err-Ended-clause-fits g c = rw c.requires.none (ended g c).fits

-- ---- its link broke

broke : (g : _) (c : goal.After-lose-in-Err-Broke g) → Replied c.args.i c.args.system.now c.lose-in-Err-Broke.new.system (g.S.Spawner.shown c.lose-in-Err-Broke.new.spawner) None
broke g c =
    let silent = c.in-Err-Broke.ensures.broke c.in-Err-Broke.fault (ap Err c.in-Err-Broke.field-0-is) in
    lost_replied c.args.system.now c.lose-in-Err-Broke.new.system c.args.i c.known.ensures.facts c.requires.inside (g.S.Spawner.shown c.args.spawner.now) (g.S.Spawner.shown c.lose-in-Err-Broke.new.spawner) (g.S.L.Link.shown c.args.own) (g.S.L.Link.shown c.call.new.self)
    c.requires.fits c.lose-in-Err-Broke.ensures.spawner (Broke c.in-Err-Broke.fault) (broke_cause c.args.system.now c.in-Err-Broke.fault (g.S.L.Link.shown c.call.new.self)
    (λ tells. cc (silent, tells_peer c.args.system.now c.args.i c.args.given c.known.ensures.facts (g.S.Spawner.shown c.args.spawner.now) (g.S.L.Link.shown c.args.own) c.requires.given c.requires.fits tells)))
    c.lose-in-Err-Broke.ensures.lost

pub returns-in-Err-Broke-clause-reply : goal.returns-in-Err-Broke-clause-reply
returns-in-Err-Broke-clause-reply g c = (broke g c).reply

pub returns-in-Err-Broke-clause-fits : goal.returns-in-Err-Broke-clause-fits
returns-in-Err-Broke-clause-fits g c = rw c.requires.none (broke g c).fits

-- ---- memory is wanting at its link

gave_up : (g : _) (c : goal.After-lose-in-Err-Memory g) → Replied c.args.i c.args.system.now c.lose-in-Err-Memory.new.system (g.S.Spawner.shown c.lose-in-Err-Memory.new.spawner) None
gave_up g c =
    gave_up_replied c.args.system.now c.lose-in-Err-Memory.new.system c.args.i c.known.ensures.facts c.requires.inside (g.S.Spawner.shown c.args.spawner.now) (g.S.Spawner.shown c.lose-in-Err-Memory.new.spawner) (g.S.L.Link.shown c.args.own) (g.S.L.Link.shown c.call.new.self)
    c.requires.fits c.lose-in-Err-Memory.ensures.spawner c.requires.free
    (after_same (state_after c.args.system.now (halt c.args.i Memory)) c.halt.new.self c.lose-in-Err-Memory.new.system (lost c.args.i Ended) c.halt.ensures.halted c.lose-in-Err-Memory.ensures.lost)

pub returns-clause-fits : goal.returns-clause-fits
returns-clause-fits g c = rw c.requires.none (gave_up g c).fits
