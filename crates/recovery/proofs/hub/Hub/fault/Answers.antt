use Rattle.std.proofs.Common.{◌≡◌, ◌∙◌, ◌<◌, None, Some, sym, ap, subst}
use Rattle.std.specs.Option.{unwrap_or}
use Rattle.std.proofs.lemmas.List.{get_or_default}
use Rattle.px_base.specs.declared.wire.Header.{Header}
use Rattle.hub_terms.specs.Hubs.{HubState, worker_count, order_at}
use Rattle.hub_terms.specs.HubEvents.{order_header, foreign_of}
use Rattle.recovery.specs.Keeping.{bare, fault_of}
use Rattle.recovery.proofs.Turns.{header_at, fault_is}
use Rattle.recovery.proofs.Events.{headers_inside}
use Rattle.recovery.proofs.hub.Hub.fault.Goals as goal

pub returns : goal.returns
returns c =
    let hub : HubState = record { members = c.self.inside.members; inboxes = c.self.inside.inboxes; halt = c.self.inside.halt; orders = c.self.inside.orders; reported = c.self.inside.reported } in
    let inside : c.args.i < worker_count hub = subst (λ (h : HubState). c.args.i < worker_count h) (sym c.self.view_is) c.requires.inside in
    λ order had.
    let mine : order_at hub c.args.i ≡ Some order = subst (λ (h : HubState). order_at h c.args.i ≡ Some order) (sym c.self.view_is) had in
    let kept : c.index.result.now ≡ Some (order_header order) =
    c.index.ensures ∙ get_or_default c.self.inside.headers.items c.args.i c.index.result.now None (headers_inside _ _ _ _ _ _ hub c.self.invariant c.args.i inside) ∙ header_at _ _ _ _ _ _ hub c.self.invariant c.args.i order mine inside in
    let none : Header = record { kind = 0; epoch = 0; round = 0 } in
    let header : c.unwrap_or-header.result ≡ order_header order = c.unwrap_or-header.ensures ∙ ap (λ o. unwrap_or o none) kept in
    c.fault_of.ensures ∙ ap (λ (h : Header). fault_of (bare c.self.inside.cuts.ends c.self.inside.routes c.self.inside.counting) c.args.i h c.args.answer.now) header
    ∙ fault_is _ _ _ _ _ _ hub c.self.invariant c.args.i order c.args.answer.now
    ∙ ap (λ (h : HubState). foreign_of h.inboxes c.args.i order c.args.answer.now) c.self.view_is
