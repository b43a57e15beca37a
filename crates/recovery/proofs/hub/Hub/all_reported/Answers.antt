use Rattle.std.proofs.Common.{◌∙◌, ap}
use Rattle.hub_terms.specs.Hubs.{HubState, all_reported}
use Rattle.recovery.proofs.Events.{flags_all}
use Rattle.recovery.proofs.hub.Hub.all_reported.Goals as goal

pub returns : goal.returns
returns c =
    let hub : HubState = record { members = c.self.inside.members; inboxes = c.self.inside.inboxes; halt = c.self.inside.halt; orders = c.self.inside.orders; reported = c.self.inside.reported } in
    rw c.deref.ensures.value at c.all_set.ensures ∙ flags_all _ _ _ _ _ _ hub c.self.invariant ∙ ap all_reported c.self.view_is
