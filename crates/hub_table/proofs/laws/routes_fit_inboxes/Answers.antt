use Rattle.list_laws.proofs.Routes.{routes_fit}
use Rattle.hub_table.proofs.laws.routes_fit_inboxes.Goals as goal

pub returns-clause-routes : goal.returns-clause-routes
returns-clause-routes c rows cuts = routes_fit rows cuts
