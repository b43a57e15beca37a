use Rattle.std.proofs.Common.{ap, sym, subst, ℕ}
use Rattle.partitioner.specs.declared.cuts.Cuts.{Cuts}
use Rattle.px_base.specs.Parts.{IsWorkerCuts}
use Rattle.core_calls.proofs.Building.{one_route_each, routes_here, routes_of_hub}
use Rattle.core_calls.proofs.jobs.CutJob.system.Goals as goal

pub new-requires-clause-routes : goal.new-requires-clause-routes
new-requires-clause-routes c = routes_here c.self.inside.graph.rows c.self.inside.cuts.ends c.in_ok-cuts.cuts.ends c.in_ok-routes.routes.to
    (ap (λ (k : Cuts). k.ends) c.in_ok-cuts.ensures) c.in_ok-routes.ensures

pub new-requires-clause-one_each : goal.new-requires-clause-one_each
new-requires-clause-one_each c = one_route_each c.self.inside.graph.rows c.self.inside.cuts.ends c.in_ok-cuts.cuts.ends c.in_ok-routes.routes.to
    (ap (λ (k : Cuts). k.ends) c.in_ok-cuts.ensures) c.in_ok-routes.ensures (subst (λ (n : ℕ). IsWorkerCuts n c.self.inside.cuts.ends) (sym c.self.invariant.one_each) c.self.invariant.cuts)

pub new-requires-2-clause-routes : goal.new-requires-2-clause-routes
new-requires-2-clause-routes c = routes_of_hub c.self.inside.graph.rows c.self.inside.cuts.ends c.in_ok-cuts.cuts.ends c.in_ok-routes.routes.to
    (ap (λ (k : Cuts). k.ends) c.in_ok-cuts.ensures) c.in_ok-routes.ensures c.in_ok-hub.hub c.counts.result c.args.limits c.in_ok-hub.ensures
