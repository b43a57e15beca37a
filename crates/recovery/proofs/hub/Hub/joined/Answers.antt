use Rattle.std.proofs.Common.{◌≡◌, ◌<◌, false, None, sym, subst}
use Rattle.hub_terms.specs.Hubs.{HubState, worker_count, worker_at}
use Rattle.recovery.proofs.Events.{join_kept}
use Rattle.recovery.proofs.hub.Hub.joined.Goals as goal

pub invariant_of-self : goal.invariant_of-self
invariant_of-self c =
    let hub : HubState = record { members = c.self.inside.members; inboxes = c.self.inside.inboxes; halt = c.self.inside.halt; orders = c.self.inside.orders; reported = c.self.inside.reported } in
    rw c.joined.ensures (join_kept _ _ _ _ _ _ hub c.self.invariant c.args.i
    (subst (λ (h : HubState). c.args.i < worker_count h) (sym c.self.view_is) c.requires.inside)
    (subst (λ (h : HubState). (worker_at h c.args.i).live ≡ false) (sym c.self.view_is) c.requires.missing)
    (subst (λ (h : HubState). h.halt ≡ None) (sym c.self.view_is) c.requires.free))
