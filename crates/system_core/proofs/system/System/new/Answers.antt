use Rattle.hub_terms.specs.Jobs.{job_of}
use Rattle.system_core.proofs.Openings.{made_is_opening, made_keeps_all}
use Rattle.system_core.proofs.system.System.new.Goals as goal

pub invariant_of-result : goal.invariant_of-result
invariant_of-result c = rw c.job_of-job.ensures (made_keeps_all c.args.hub (job_of c.args.graph.now c.args.core.now c.args.starts.now) c.args.told c.no_worlds-worlds.result
    c.requires.new c.no_worlds-worlds.ensures c.requires.routes c.requires.counting c.known.ensures.in_step c.known.ensures.graph c.requires.sound)

pub returns : goal.returns
returns c = rw c.job_of-job.ensures (made_is_opening c.args.hub (job_of c.args.graph.now c.args.core.now c.args.starts.now) c.args.told c.no_worlds-worlds.result
    c.requires.new c.no_worlds-worlds.ensures c.requires.routes c.requires.counting)
