use Rattle.std.proofs.Common.{◌≡◌, ◌∙◌, List, ℕ, true, length, sym, ap, subst}
use Rattle.std.specs.Prelude.{All}
use Rattle.px_base.specs.Parts.{part_count}
use Rattle.px_base.specs.Values.{IsValue}
use Rattle.partitioner.specs.Cuts.{vertex_count}
use Rattle.hub_terms.specs.Hubs.{HubState, all_reported, reported_values}
use Rattle.recovery.proofs.Reported.{joined_values, values_are}
use Rattle.recovery.proofs.hub.Hub.values.Goals as goal

pub returns-clause-values : goal.returns-clause-values
returns-clause-values c =
    let hub : HubState = record { members = c.self.inside.members; inboxes = c.self.inside.inboxes; halt = c.self.inside.halt; orders = c.self.inside.orders; reported = c.self.inside.reported } in
    let told : all_reported hub ≡ true = subst (λ (h : HubState). all_reported h ≡ true) (sym c.self.view_is) c.requires in
    c.deref.ensures.value
    ∙ sym (values_are c.self.inside.cuts.ends hub.reported c.self.inside.values.items c.self.invariant.kept.graph.cut.cut c.self.invariant.kept.held
    (c.self.invariant.in_step.places.reported ∙ ap part_count c.self.invariant.kept.cuts) told)
    ∙ ap (λ (h : HubState). reported_values h) c.self.view_is

pub returns-clause-one_each : goal.returns-clause-one_each
returns-clause-one_each c = ap (λ (xs : List ℕ). length xs) c.deref.ensures.value ∙ c.self.invariant.kept.held.size
    ∙ ap vertex_count (sym c.self.invariant.kept.cuts) ∙ ap (λ (h : HubState). vertex_count h.inboxes.cuts) c.self.view_is

pub returns-clause-in_range : goal.returns-clause-in_range
returns-clause-in_range c =
    let hub : HubState = record { members = c.self.inside.members; inboxes = c.self.inside.inboxes; halt = c.self.inside.halt; orders = c.self.inside.orders; reported = c.self.inside.reported } in
    let told : all_reported hub ≡ true = subst (λ (h : HubState). all_reported h ≡ true) (sym c.self.view_is) c.requires in
    subst (λ (xs : List ℕ). All IsValue xs)
    (values_are c.self.inside.cuts.ends hub.reported c.self.inside.values.items c.self.invariant.kept.graph.cut.cut c.self.invariant.kept.held
    (c.self.invariant.in_step.places.reported ∙ ap part_count c.self.invariant.kept.cuts) told
    ∙ sym c.deref.ensures.value)
    (joined_values hub.reported c.self.invariant.in_step.reports.values)
