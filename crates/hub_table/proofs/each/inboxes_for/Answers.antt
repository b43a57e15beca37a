use Rattle.std.proofs.Common.{◌≡◌, ◌∙◌, ◌++◌, [], List, ℕ, All, ◌<◌, ap}
use Rattle.std.specs.Vec.Iter.{into_iter_items}
use Rattle.std.specs.List.Sorted.{IsStrictlyIncreasing}
use Rattle.hub_table.specs.Tables.{tables}
use Rattle.hub_table.proofs.Making.{all_empty_made, all_made, made_more, next_list, none_left}
use Rattle.hub_table.proofs.each.inboxes_for.Goals as goal
use Rattle.px_base.specs.declared.TheConstants.{MOST_VERTICES}

pub listed-requires-clause-rising : goal.listed-requires-clause-rising
listed-requires-clause-rising c =
    let split = c.loop-list.invariant.0 ∙ ap (λ (ls : List (List ℕ)). tables c.loop-list.inboxes.items ++ ls) c.in-Some.ensures.steps.0 in
    rw c.into_vec.ensures (next_list IsStrictlyIncreasing c.args.lists.items (tables c.loop-list.inboxes.items) (into_iter_items c.next.new.self) c.in-Some.list split c.requires.rising)

pub listed-requires-clause-below : goal.listed-requires-clause-below
listed-requires-clause-below c =
    let split = c.loop-list.invariant.0 ∙ ap (λ (ls : List (List ℕ)). tables c.loop-list.inboxes.items ++ ls) c.in-Some.ensures.steps.0 in
    rw c.into_vec.ensures (next_list (λ (list : List ℕ). All (λ v. v < MOST_VERTICES) list) c.args.lists.items (tables c.loop-list.inboxes.items) (into_iter_items c.next.new.self) c.in-Some.list split c.requires.few)

pub loop-list-preserved : goal.loop-list-preserved
loop-list-preserved c =
    let split = c.loop-list.invariant.0 ∙ ap (λ (ls : List (List ℕ)). tables c.loop-list.inboxes.items ++ ls) c.in-Some.ensures.steps.0 in
    let made : c.in_ok-new.field-0 ≡ record { vertices = c.in-Some.list; mail = [] } = c.in_ok-new.ensures ∙ ap (λ (v : List ℕ). record { vertices = v; mail = [] }) (c.in_ok-places.ensures ∙ c.into_vec.ensures) in
    made_more c.args.lists.items (into_iter_items c.next.new.self) c.loop-list.inboxes.items c.push.new.self.items c.in-Some.list c.in_ok-new.field-0 made c.in_ok-push.ensures.items split c.loop-list.invariant.1

pub returns-clause-tables : goal.returns-clause-tables
returns-clause-tables c =
    let none = none_left (into_iter_items c.loop-list.list-iterator) c.loop-list.list-iterator.rest.len c.loop-list.list-iterator.rest.ok.0 c.in-None.ensures.steps.0 in
    all_made c.args.lists.items (into_iter_items c.loop-list.list-iterator) c.loop-list.inboxes.items none c.loop-list.invariant.0

pub returns-clause-mails : goal.returns-clause-mails
returns-clause-mails c =
    let none = none_left (into_iter_items c.loop-list.list-iterator) c.loop-list.list-iterator.rest.len c.loop-list.list-iterator.rest.ok.0 c.in-None.ensures.steps.0 in
    all_empty_made c.args.lists.items c.loop-list.inboxes.items (all_made c.args.lists.items (into_iter_items c.loop-list.list-iterator) c.loop-list.inboxes.items none c.loop-list.invariant.0) c.loop-list.invariant.1
