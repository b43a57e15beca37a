use Rattle.std.proofs.Common.{◌≡◌, map}
use Rattle.std.specs.Prelude.{Result, Ok, Err, IfOk, IfErr}
use Rattle.std.specs.Option.{option_map}
use Rattle.px_base.specs.Parts.{block_cuts}
use Rattle.hub_terms.specs.Jobs.{job_of}
use Rattle.driver_laws.specs.declared.endings.Finished.{Finished}
use Rattle.driver_laws.specs.declared.endings.Stop.{Stop}
use Rattle.driver_laws.specs.Endings.{HasStopped, IsFinished, IsOutcome, keeps_links}
use Rattle.driver_laws.specs.Jobs.{vertices}
use Rattle.driver_laws.proofs.Ended.{IsEnding, begun_run, goes_back, has_stopped, is_back, is_finished, not_lent}
use Rattle.driver_laws.proofs.Freed.{are_released, links_own}
use Rattle.driver_laws.proofs.Opening.{job_tune}
use Rattle.supervisor.proofs.serial.supervise_serial.Goals as goal

pub rounds-requires-clause-tune : goal.rounds-requires-clause-tune
rounds-requires-clause-tune g c κs within =
    let job = c.args.job.now in
    job_tune c.in-Ok.system (vertices job) job.workers job.limits c.told_by.result (job_of job.graph job.core job.starts) (g.N.Nursery.shown c.args.nursery.now) (g.N.Nursery.shown c.lend.new.self)
    (map g.N.S.Spawner.shown c.in-Ok-lend.spawners.items) g.N.S.L.Link.shown c.in-Ok-no_links.links.items c.in-Ok.ensures.system c.in-Ok-lend.ensures.ok c.told_by.ensures c.in-Ok-no_links.ensures

pub release_all-requires-clause-links : goal.release_all-requires-clause-links
release_all-requires-clause-links g c κs within =
    links_own g.N.S.Spawner.shown c.rounds.new.spawners.items (map (option_map g.N.S.L.Link.shown) c.rounds.new.links.items) c.rounds.new.system c.rounds.ensures.tune

-- ---- the end

-- before the spawners go back
ending : (g : _) (c : goal.After-take_back-arg-1 g) → IsEnding c.args.job.now (g.N.Nursery.shown c.args.nursery.now) (g.N.Nursery.shown c.lend.new.self) c.rounds.new.system (map g.N.S.Spawner.shown c.rounds.new.spawners.items)
    (map g.N.S.Spawner.shown c.release_all.new.spawners.items) (map (option_map g.N.S.L.Link.shown) c.rounds.new.links.items) (map g.N.S.Spawner.shown c.in-Ok-lend.spawners.items) c.keeps_links.result
ending g c =
    let job = c.args.job.now in
    record {
      sound = c.requires.sound;
      few = c.requires.few_starts;
      lends = c.in-Ok-lend.ensures.ok;
      marks = c.rounds.ensures.marks;
      kept = c.known.ensures.facts;
      over = c.rounds.ensures.over;
      run = begun_run c.in-Ok.system c.rounds.new.system (block_cuts (vertices job) job.workers) job.limits c.told_by.result (g.N.Nursery.shown c.args.nursery.now).tells (job_of job.graph job.core job.starts) c.in-Ok.ensures.system c.told_by.ensures c.rounds.ensures.run;
      tune = c.rounds.ensures.tune;
      free = are_released g.N.S.Spawner.shown c.rounds.new.spawners.items (map (option_map g.N.S.L.Link.shown) c.rounds.new.links.items) c.keeps_links.result c.release_all.new.spawners.items c.release_all.ensures.count c.release_all.ensures.released;
    }

pub take_back-requires : goal.take_back-requires
take_back-requires g c = goes_back c.args.job.now (g.N.Nursery.shown c.args.nursery.now) (g.N.Nursery.shown c.lend.new.self) c.rounds.new.system (map g.N.S.Spawner.shown c.rounds.new.spawners.items)
    (map g.N.S.Spawner.shown c.release_all.new.spawners.items) (map (option_map g.N.S.L.Link.shown) c.rounds.new.links.items) (map g.N.S.Spawner.shown c.in-Ok-lend.spawners.items) c.keeps_links.result (ending g c)

-- the same once they have gone back
ended : (g : _) (c : goal.After-drop-team-2 g) → IsEnding c.args.job.now (g.N.Nursery.shown c.args.nursery.now) (g.N.Nursery.shown c.lend.new.self) c.rounds.new.system (map g.N.S.Spawner.shown c.rounds.new.spawners.items)
    (map g.N.S.Spawner.shown c.release_all.new.spawners.items) (map (option_map g.N.S.L.Link.shown) c.rounds.new.links.items) (map g.N.S.Spawner.shown c.in-Ok-lend.spawners.items) c.keeps_links.result
ended g c =
    let job = c.args.job.now in
    record {
      sound = c.requires.sound;
      few = c.requires.few_starts;
      lends = c.in-Ok-lend.ensures.ok;
      marks = c.rounds.ensures.marks;
      kept = c.known.ensures.facts;
      over = c.rounds.ensures.over;
      run = begun_run c.in-Ok.system c.rounds.new.system (block_cuts (vertices job) job.workers) job.limits c.told_by.result (g.N.Nursery.shown c.args.nursery.now).tells (job_of job.graph job.core job.starts) c.in-Ok.ensures.system c.told_by.ensures c.rounds.ensures.run;
      tune = c.rounds.ensures.tune;
      free = are_released g.N.S.Spawner.shown c.rounds.new.spawners.items (map (option_map g.N.S.L.Link.shown) c.rounds.new.links.items) c.keeps_links.result c.release_all.new.spawners.items c.release_all.ensures.count c.release_all.ensures.released;
    }

pub returns-clause-finished : goal.returns-clause-finished
returns-clause-finished g c = by_result c.outcome_of-outcome.result c.outcome_of-outcome.ensures c.keeps_links.ensures
  where
    by_result : (r : Result Finished Stop) → IsOutcome c.rounds.new.system r → c.keeps_links.result ≡ keeps_links r → IfOk r (λ finished. IsFinished c.args.job.now (g.N.Nursery.shown c.args.nursery.now) (g.N.Nursery.shown c.take_back.new.self) finished)
    by_result (Ok finished) is keeps = is_finished c.args.job.now (g.N.Nursery.shown c.args.nursery.now) (g.N.Nursery.shown c.lend.new.self) (g.N.Nursery.shown c.take_back.new.self) c.rounds.new.system (map g.N.S.Spawner.shown c.rounds.new.spawners.items)
        (map g.N.S.Spawner.shown c.release_all.new.spawners.items) (map (option_map g.N.S.L.Link.shown) c.rounds.new.links.items) (map g.N.S.Spawner.shown c.in-Ok-lend.spawners.items) c.keeps_links.result (ended g c) c.take_back.ensures finished keeps is
    by_result (Err why) is keeps = tt

pub returns-clause-stopped : goal.returns-clause-stopped
returns-clause-stopped g c = by_result c.outcome_of-outcome.result c.outcome_of-outcome.ensures c.keeps_links.ensures
  where
    by_result : (r : Result Finished Stop) → IsOutcome c.rounds.new.system r → c.keeps_links.result ≡ keeps_links r → IfErr r (λ why. HasStopped c.args.job.now (g.N.Nursery.shown c.args.nursery.now) (g.N.Nursery.shown c.take_back.new.self) why)
    by_result (Ok finished) is keeps = tt
    by_result (Err why) is keeps = has_stopped c.args.job.now (g.N.Nursery.shown c.args.nursery.now) (g.N.Nursery.shown c.lend.new.self) (g.N.Nursery.shown c.take_back.new.self) c.rounds.new.system (map g.N.S.Spawner.shown c.rounds.new.spawners.items)
        (map g.N.S.Spawner.shown c.release_all.new.spawners.items) (map (option_map g.N.S.L.Link.shown) c.rounds.new.links.items) (map g.N.S.Spawner.shown c.in-Ok-lend.spawners.items) c.keeps_links.result (ended g c) c.take_back.ensures why keeps is

pub returns-clause-back : goal.returns-clause-back
returns-clause-back g c = is_back c.args.job.now (g.N.Nursery.shown c.args.nursery.now) (g.N.Nursery.shown c.lend.new.self) (g.N.Nursery.shown c.take_back.new.self) c.rounds.new.system (map g.N.S.Spawner.shown c.rounds.new.spawners.items)
    (map g.N.S.Spawner.shown c.release_all.new.spawners.items) (map (option_map g.N.S.L.Link.shown) c.rounds.new.links.items) (map g.N.S.Spawner.shown c.in-Ok-lend.spawners.items) c.keeps_links.result (ended g c) c.take_back.ensures

pub returns-in_default-lend-clause-back : goal.returns-in_default-lend-clause-back
returns-in_default-lend-clause-back g c = not_lent (g.N.Nursery.shown c.args.nursery.now) (g.N.Nursery.shown c.lend.new.self) _ c.requires.none_lent c.in_default-lend.ensures.err
