use Rattle.std.proofs.Common.{◌∙◌, Err, ap, sym}
use Rattle.px_base.specs.declared.graph.Part.{Part}
use Rattle.hub_terms.specs.declared.stops.Halt.TheVariants as halt
use Rattle.hub_terms.specs.Hubs.{worker_count}
use Rattle.hub_terms.specs.Systems.{part_at}
use Rattle.driver_laws.proofs.Parts.{entry_inside, entry_is, part_can_start}
use Rattle.driver_laws.proofs.Fitting.{can_start, joined_fits}
use Rattle.driver_laws.proofs.Moves.{joined_goes_on, not_started_turn, refused_start_fits, wanting_start_fits}
use Rattle.supervisor.proofs.turns.start_at.Goals as goal

pub bounds-as_slice-i : goal.bounds-as_slice-i
bounds-as_slice-i g c = entry_inside c.as_slice.result.now (worker_count c.args.system.now.hub) c.args.i (part_at c.args.system.now) (c.as_slice.ensures ∙ c.requires.team.parts) c.requires.inside

pub start-requires-clause-mine : goal.start-requires-clause-mine
start-requires-clause-mine g c =
    ap (λ (x : Part). x.index) (entry_is c.as_slice.result.now (worker_count c.args.system.now.hub) c.args.i (part_at c.args.system.now) c.index-as_slice-i.result (c.as_slice.ensures ∙ c.requires.team.parts) c.requires.inside c.index-as_slice-i.is)
    ∙ sym c.requires.fits.spawner.worker

pub start-requires-clause-can : goal.start-requires-clause-can
start-requires-clause-can g c = part_can_start c.args.system.now c.args.i c.args.team.now.chunks c.index-as_slice-i.result c.args.team.now.core c.known.ensures.facts.in_step.job c.requires.inside c.requires.team.some_chunks c.requires.team.few_chunks
    (entry_is c.as_slice.result.now (worker_count c.args.system.now.hub) c.args.i (part_at c.args.system.now) c.index-as_slice-i.result (c.as_slice.ensures ∙ c.requires.team.parts) c.requires.inside c.index-as_slice-i.is) c.requires.team.core

pub start-requires-clause-few : goal.start-requires-clause-few
start-requires-clause-few g c = can_start c.args.system.now c.args.i (g.S.Spawner.shown c.args.spawner.now) c.known.ensures.facts c.requires.fits.counts

pub returns-in-Ok-clause-fits : goal.returns-in-Ok-clause-fits
returns-in-Ok-clause-fits g c = rw c.joined.ensures.joined
    (joined_fits c.args.system.now c.args.i c.known.ensures.facts c.requires.inside c.requires.free (g.S.Spawner.shown c.args.spawner.now) (g.S.Spawner.shown c.start.new.self) c.index-as_slice-i.result c.args.team.now.core (g.S.L.Link.shown c.in-Ok.started)
    c.requires.fits c.in-Ok.ensures.ok
    (entry_is c.as_slice.result.now (worker_count c.args.system.now.hub) c.args.i (part_at c.args.system.now) c.index-as_slice-i.result (c.as_slice.ensures ∙ c.requires.team.parts) c.requires.inside c.index-as_slice-i.is) c.requires.team.core)

pub returns-in-Ok-clause-went : goal.returns-in-Ok-clause-went
returns-in-Ok-clause-went g c = joined_goes_on c.args.system.now c.joined.new.self c.args.i c.known.ensures.facts c.requires.inside c.requires.fits.missing c.requires.free c.joined.ensures.joined

pub returns-in-Err-Refused-clause-turn : goal.returns-in-Err-Refused-clause-turn
returns-in-Err-Refused-clause-turn g c = not_started_turn c.args.system.now c.halt.new.self c.args.i halt.NoReplacement c.requires.inside c.requires.free c.requires.idle c.halt.ensures.halted c.requires.fits.missing

pub returns-in-Err-Memory-clause-turn : goal.returns-in-Err-Memory-clause-turn
returns-in-Err-Memory-clause-turn g c = not_started_turn c.args.system.now c.halt-in-Err-Memory.new.self c.args.i halt.Memory c.requires.inside c.requires.free c.requires.idle c.halt-in-Err-Memory.ensures.halted c.requires.fits.missing

pub returns-in-Err-Refused-clause-fits : goal.returns-in-Err-Refused-clause-fits
returns-in-Err-Refused-clause-fits g c = rw c.requires.none (refused_start_fits c.args.system.now c.halt.new.self c.args.i c.known.ensures.facts c.requires.free (g.S.Spawner.shown c.args.spawner.now) (g.S.Spawner.shown c.start.new.self)
    c.requires.fits c.in-Err-Refused.ensures.err c.halt.ensures.halted (c.in-Err-Refused.ensures.refused (ap Err c.in-Err-Refused.field-0-is)))

pub returns-in-Err-Memory-clause-fits : goal.returns-in-Err-Memory-clause-fits
returns-in-Err-Memory-clause-fits g c = rw c.requires.none (wanting_start_fits c.args.system.now c.halt-in-Err-Memory.new.self c.args.i c.known.ensures.facts c.requires.free (g.S.Spawner.shown c.args.spawner.now) (g.S.Spawner.shown c.start.new.self)
    c.requires.fits c.in-Err-Memory.ensures.err c.halt-in-Err-Memory.ensures.halted)
