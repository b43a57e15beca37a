use Rattle.std.proofs.Common.{◌≡◌, ◌<◌, true, sym, subst, rules}
use Rattle.std.specs.Prelude.{is_none}
use Rattle.hub_terms.specs.Hubs.{HubState, worker_count, worker_at}
use Rattle.recovery.proofs.Events.{loss_kept, loss_halt}
use Rattle.recovery.proofs.hub.Hub.lost.Goals as goal

pub invariant_of-self : goal.invariant_of-self
invariant_of-self c =
    let hub : HubState = record { members = c.self.inside.members; inboxes = c.self.inside.inboxes; halt = c.self.inside.halt; orders = c.self.inside.orders; reported = c.self.inside.reported } in
    let noted : c.is_none-noted.result ≡ is_none hub.halt = search rules in
    rw (c.lost.ensures, c.clear.ensures, c.drop_order.ensures, c.drop_reports.ensures, c.no_header.ensures, c.clear_all.ensures, c.halt_after-self-inside.ensures, c.losses.ensures, c.limits-limits.ensures, noted)
    (rw (loss_halt _ _ _ _ _ _ hub c.self.invariant) (loss_kept _ _ _ _ _ _ hub c.self.invariant c.args.i c.args.kind
    (subst (λ (h : HubState). c.args.i < worker_count h) (sym c.self.view_is) c.requires.inside)
    (subst (λ (h : HubState). (worker_at h c.args.i).live ≡ true) (sym c.self.view_is) c.requires.live)))
