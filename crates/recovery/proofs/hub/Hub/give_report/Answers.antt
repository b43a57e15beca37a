use Rattle.std.proofs.Common.{◌≡◌, ◌<◌, true, None, sym, subst}
use Rattle.px_base.specs.declared.wire.Order.TheVariants.{Report}
use Rattle.hub_terms.specs.Hubs.{HubState, work, worker_count, worker_at, order_at, turn_of}
use Rattle.recovery.proofs.Turns.{given_kept}
use Rattle.recovery.proofs.hub.Hub.give_report.Goals as goal

pub invariant_of-self : goal.invariant_of-self
invariant_of-self c =
    let hub : HubState = record { members = c.self.inside.members; inboxes = c.self.inside.inboxes; halt = c.self.inside.halt; orders = c.self.inside.orders; reported = c.self.inside.reported } in
    rw (c.hand_out.ensures.headers, c.hand_out.ensures.orders, c.given.ensures, c.epoch-epoch.ensures) (given_kept _ _ _ _ _ _ hub c.self.invariant c.args.i (Report hub.members.epoch)
    (subst (λ (h : HubState). turn_of h c.args.i ≡ work (Report h.members.epoch)) (sym c.self.view_is) c.requires.turn)
    (subst (λ (h : HubState). c.args.i < worker_count h) (sym c.self.view_is) c.requires.inside)
    (subst (λ (h : HubState). (worker_at h c.args.i).live ≡ true) (sym c.self.view_is) c.requires.live)
    (subst (λ (h : HubState). order_at h c.args.i ≡ None) (sym c.self.view_is) c.requires.idle))
