use Rattle.std.proofs.Common.{◌≡◌, false, List, None, rules}
use Rattle.std.proofs.Math.ListN.{replicate}
use Rattle.px_base.specs.Parts.{part_count}
use Rattle.partitioner.specs.Cuts.{vertex_count}
use Rattle.hub_terms.specs.Members.{opening_members}
use Rattle.hub_terms.specs.Inboxes.{opening_inboxes}
use Rattle.recovery.proofs.Events.{hub_opened}
use Rattle.recovery.proofs.hub.Hub.new.Goals as goal

pub invariant_of-result : goal.invariant_of-result
invariant_of-result c =
    let ends : List _ = c.args.cuts.ends in
    let headers : c.in_ok-headers.headers.items ≡ replicate (part_count ends) None = search rules in
    let flags : c.in_ok-flags.flags.items ≡ replicate (part_count ends) false = search rules in
    let values : c.in_ok-values.values.items ≡ replicate (vertex_count ends) 0 = search rules in
    let members : c.in_ok-members.members ≡ opening_members (part_count ends) c.args.limits = search rules in
    let inboxes : c.in_ok-inboxes.inboxes ≡ opening_inboxes ends c.args.routes.to c.args.counting = search rules in
    let routes : c.in_ok-routes.routes ≡ c.args.routes.to = search rules in
    let orders : c.no_orders.result ≡ replicate (part_count ends) None = search rules in
    let reported : c.no_reports.result ≡ replicate (part_count ends) None = search rules in
    rw (headers, flags, values, members, inboxes, routes, orders, reported)
    (hub_opened ends c.args.routes.to c.args.counting c.args.limits (record { cut = c.requires.cuts; few = c.requires.few; ways = c.requires.routes; one_each = c.requires.one_each }) c.requires.limits)
