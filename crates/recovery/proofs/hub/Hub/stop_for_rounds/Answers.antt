use Rattle.std.proofs.Common.{◌≡◌, None, sym, subst}
use Rattle.hub_terms.specs.Hubs.{HubState}
use Rattle.recovery.proofs.Events.{spent_kept}
use Rattle.recovery.proofs.hub.Hub.stop_for_rounds.Goals as goal

pub invariant_of-self : goal.invariant_of-self
invariant_of-self c =
    let hub : HubState = record { members = c.self.inside.members; inboxes = c.self.inside.inboxes; halt = c.self.inside.halt; orders = c.self.inside.orders; reported = c.self.inside.reported } in
    spent_kept _ _ _ _ _ _ hub c.self.invariant (subst (λ (h : HubState). h.halt ≡ None) (sym c.self.view_is) c.requires)
