use Rattle.list_laws.proofs.Routes.{routes_fit}
use Rattle.hub_calls.proofs.graphs.routes_of.Goals as goal

pub returns-clause-routes : goal.returns-clause-routes
returns-clause-routes c = rw c.in_ok-routes.ensures (routes_fit c.args.graph.now.rows c.args.cuts.now.ends)
