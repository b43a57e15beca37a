use Rattle.std.proofs.Common.{◌≡◌, ℕ, ◌<◌, ◌∙◌, ap, List, [], length, get_or, arith}
use Rattle.std.proofs.lemmas.List.{length-map}
use Rattle.px_base.specs.Parts.{part_count}
use Rattle.hub_table.specs.Slots.{InboxState}
use Rattle.hub_table.specs.Tables.{tables}
use Rattle.hub_table.proofs.Listing.{masters_are, mirrors_are, mirrors_few, mirrors_rise}
use Rattle.hub_table.proofs.Making.{both_ok}
use Rattle.hub_table.proofs.inboxes.empty_inboxes.Goals as goal

pub inboxes_for-requires-clause-rising : goal.inboxes_for-requires-clause-rising
inboxes_for-requires-clause-rising c j low =
    let listed = rw (c.as_slice.ensures, c.as_slice-else-counting.ensures) at c.in_ok-mirror_lists.ensures.lists in
    let count : length c.in_ok-mirror_lists.field-0.items ≡ part_count c.args.cuts.now.ends = rw c.as_slice.ensures at c.in_ok-mirror_lists.ensures.count in
    let below : j < part_count c.args.cuts.now.ends = omega (arith, low, count) in
    rw (listed j below) (mirrors_rise c.args.routes.now.to j)

pub inboxes_for-requires-clause-few : goal.inboxes_for-requires-clause-few
inboxes_for-requires-clause-few c j low =
    let listed = rw (c.as_slice.ensures, c.as_slice-else-counting.ensures) at c.in_ok-mirror_lists.ensures.lists in
    let count : length c.in_ok-mirror_lists.field-0.items ≡ part_count c.args.cuts.now.ends = rw c.as_slice.ensures at c.in_ok-mirror_lists.ensures.count in
    let below : j < part_count c.args.cuts.now.ends = omega (arith, low, count) in
    rw (listed j below) (mirrors_few c.args.routes.now.to j (omega (arith, c.requires.few, c.requires.one_each)))

pub returns-then-counting-clause-tables : goal.returns-then-counting-clause-tables
returns-then-counting-clause-tables c =
    both_ok c.master_inboxes.result _ _ _
    (λ inboxes size each. masters_are c.args.cuts.now.ends c.args.routes.now.to (tables inboxes.items) _ c.args.counting c.requires.cuts.cut c.if-counting.true (length-map inboxes.items (λ (b : InboxState). b.vertices) ∙ size) each)
    c.master_inboxes.ensures.count c.master_inboxes.ensures.tables

pub returns-in_ok-mirror_lists-clause-tables : goal.returns-in_ok-mirror_lists-clause-tables
returns-in_ok-mirror_lists-clause-tables c =
    let count : length c.in_ok-mirror_lists.field-0.items ≡ part_count c.args.cuts.now.ends = rw c.as_slice.ensures at c.in_ok-mirror_lists.ensures.count in
    let listed = rw (c.as_slice.ensures, c.as_slice-else-counting.ensures) at c.in_ok-mirror_lists.ensures.lists in
    both_ok c.inboxes_for.result _ _ _
    (λ inboxes made _. mirrors_are c.args.cuts.now.ends c.args.routes.now.to (tables inboxes.items) c.args.counting c.if-counting.false (ap length made ∙ count)
    (λ j low. ap (λ (ls : List (List ℕ)). get_or ls j []) made ∙ listed j low))
    c.inboxes_for.ensures.tables c.inboxes_for.ensures.tables
