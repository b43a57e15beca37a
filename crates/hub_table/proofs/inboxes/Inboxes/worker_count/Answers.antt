use Rattle.std.proofs.Common.{subst}
use Rattle.hub_terms.specs.HubInStep.{InboxesFit}
use Rattle.hub_table.proofs.inboxes.Inboxes.worker_count.Goals as goal

pub returns-clause-fit : goal.returns-clause-fit
returns-clause-fit c = subst InboxesFit c.self.view_is c.self.invariant.fit
