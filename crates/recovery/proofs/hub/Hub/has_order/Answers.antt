use Rattle.std.proofs.Common.{◌≡◌, ◌∙◌, ◌<◌, Bool, Option, Some, None, get_or, refl, sym, ap, subst}
use Rattle.std.specs.Prelude.{is_some, MatchBool, MatchOption, ⊤}
use Rattle.std.proofs.lemmas.List.{get_or_default, get_or-map}
use Rattle.px_base.specs.declared.wire.Order.{Order}
use Rattle.hub_terms.specs.Hubs.{HubState, order_at, worker_count}
use Rattle.hub_terms.specs.Systems.{HasOrder}
use Rattle.recovery.specs.Keeping.{header_of}
use Rattle.recovery.proofs.Events.{headers_inside}
use Rattle.recovery.proofs.hub.Hub.has_order.Goals as goal

-- a header tells whether there is an order
header_tells : (order : Option Order) → MatchBool (is_some (header_of order)) (MatchOption order ⊥ (λ o. ⊤)) (order ≡ None)
header_tells None = refl
header_tells (Some order) = tt

pub returns : goal.returns
returns c =
    let hub : HubState = record { members = c.self.inside.members; inboxes = c.self.inside.inboxes; halt = c.self.inside.halt; orders = c.self.inside.orders; reported = c.self.inside.reported } in
    let inside : c.args.i < worker_count hub = subst (λ (h : HubState). c.args.i < worker_count h) (sym c.self.view_is) c.requires in
    let kept : c.index.result.now ≡ header_of (order_at hub c.args.i) =
    c.index.ensures ∙ get_or_default c.self.inside.headers.items c.args.i c.index.result.now None (headers_inside _ _ _ _ _ _ hub c.self.invariant c.args.i inside)
    ∙ ap (λ hs. get_or hs c.args.i None) c.self.invariant.kept.headed
    ∙ get_or-map header_of hub.orders c.args.i None None (subst (λ n. c.args.i < n) (sym c.self.invariant.in_step.places.orders) inside) in
    subst (λ (h : HubState). MatchBool c.is_some.result (HasOrder h c.args.i) (order_at h c.args.i ≡ None)) c.self.view_is
    (subst (λ (b : Bool). MatchBool b (HasOrder hub c.args.i) (order_at hub c.args.i ≡ None)) (sym (c.is_some.ensures ∙ ap is_some kept)) (header_tells (order_at hub c.args.i)))
