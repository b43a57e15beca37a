use Rattle.std.proofs.Common.{◌≡◌, ◌<◌, true, None, sym, subst, rules, arith}
use Rattle.px_base.specs.declared.wire.Order.TheVariants.{Step}
use Rattle.hub_terms.specs.Hubs.{HubState, work, worker_count, worker_at, order_at, turn_of, waiting_at}
use Rattle.recovery.proofs.Turns.{given_kept, mail_given}
use Rattle.recovery.proofs.hub.Hub.give_step.Goals as goal

pub hand_out-requires-clause-given : goal.hand_out-requires-clause-given
hand_out-requires-clause-given c =
    let hub : HubState = record { members = c.self.inside.members; inboxes = c.self.inside.inboxes; halt = c.self.inside.halt; orders = c.self.inside.orders; reported = c.self.inside.reported } in
    let all : c.from_vec-updates.result ≡ waiting_at hub c.args.i = search rules in
    rw all (mail_given _ _ _ _ _ _ hub c.self.invariant c.args.i c.epoch-epoch.result c.round-round.result (subst (λ (h : HubState). c.args.i < worker_count h) (sym c.self.view_is) c.requires.inside) (omega arith) (omega arith))

pub invariant_of-self : goal.invariant_of-self
invariant_of-self c =
    let hub : HubState = record { members = c.self.inside.members; inboxes = c.self.inside.inboxes; halt = c.self.inside.halt; orders = c.self.inside.orders; reported = c.self.inside.reported } in
    let all : c.from_vec-updates.result ≡ waiting_at hub c.args.i = search rules in
    rw (c.hand_out.ensures.headers, c.hand_out.ensures.orders, c.given.ensures, c.drain.ensures.emptied, c.epoch-epoch.ensures, c.round-round.ensures, all)
    (given_kept _ _ _ _ _ _ hub c.self.invariant c.args.i (Step hub.members.epoch (worker_at hub c.args.i).round (waiting_at hub c.args.i))
    (subst (λ (h : HubState). turn_of h c.args.i ≡ work (Step h.members.epoch (worker_at h c.args.i).round (waiting_at h c.args.i))) (sym c.self.view_is) c.requires.turn)
    (subst (λ (h : HubState). c.args.i < worker_count h) (sym c.self.view_is) c.requires.inside)
    (subst (λ (h : HubState). (worker_at h c.args.i).live ≡ true) (sym c.self.view_is) c.requires.live)
    (subst (λ (h : HubState). order_at h c.args.i ≡ None) (sym c.self.view_is) c.requires.idle))
