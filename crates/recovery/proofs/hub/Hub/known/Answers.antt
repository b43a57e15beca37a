use Rattle.std.proofs.Common.{subst}
use Rattle.hub_terms.specs.Hubs.{HubState}
use Rattle.hub_terms.specs.HubInStep.{IsHubInStep}
use Rattle.recovery.specs.Keeping.{IsCutGraph}
use Rattle.recovery.proofs.Turns.{graph_is}
use Rattle.recovery.proofs.hub.Hub.known.Goals as goal

pub returns-clause-in_step : goal.returns-clause-in_step
returns-clause-in_step c = subst IsHubInStep c.self.view_is c.self.invariant.in_step

pub returns-clause-graph : goal.returns-clause-graph
returns-clause-graph c =
    let hub : HubState = record { members = c.self.inside.members; inboxes = c.self.inside.inboxes; halt = c.self.inside.halt; orders = c.self.inside.orders; reported = c.self.inside.reported } in
    subst (λ (h : HubState). IsCutGraph h.inboxes.cuts h.inboxes.routes) c.self.view_is (graph_is _ _ _ _ _ _ hub c.self.invariant)
