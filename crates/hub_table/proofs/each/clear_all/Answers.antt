use Rattle.std.proofs.Common.{◌≡◌, ◌<◌, ◌∙◌, rules, ap, sym, arith, length, length-set}
use Rattle.std.proofs.lemmas.List.{length-map}
use Rattle.hub_table.specs.Slots.{InboxState}
use Rattle.hub_table.specs.Tables.{mails}
use Rattle.hub_table.proofs.Written.{all_nil, cleared_more, written_tables}
use Rattle.hub_table.proofs.each.clear_all.Goals as goal

pub loop-at-preserved : goal.loop-at-preserved
loop-at-preserved c =
    let end : c.len-at-end.result ≡ length c.args.inboxes.now.items = search rules in
    let inside : c.loop-at.at < length c.loop-at.inboxes.items = omega (arith, end, c.loop-at-test.true, c.loop-at.invariant.2) in (
      λ k low. cleared_more c.loop-at.inboxes.items c.loop-at.at k c.clear.new.self inside (ap (λ (b : InboxState). b.mail) c.clear.ensures) c.loop-at.invariant.0 low,
      written_tables c.loop-at.inboxes.items c.loop-at.at c.clear.new.self _ inside (ap (λ (b : InboxState). b.vertices) c.clear.ensures ∙ ap (λ (b : InboxState). b.vertices) c.index_mut.ensures.value) ∙ c.loop-at.invariant.1,
      length-set c.loop-at.inboxes.items c.loop-at.at c.clear.new.self ∙ c.loop-at.invariant.2,
    )

pub returns-clause-mails : goal.returns-clause-mails
returns-clause-mails c =
    let end : c.len-at-end.result ≡ length c.args.inboxes.now.items = search rules in
    let old : length (mails c.args.inboxes.now.items) ≡ length c.args.inboxes.now.items = length-map c.args.inboxes.now.items (λ (b : InboxState). b.mail) in
    all_nil (mails c.loop-at.inboxes.items) (length (mails c.args.inboxes.now.items)) (length-map c.loop-at.inboxes.items (λ (b : InboxState). b.mail) ∙ c.loop-at.invariant.2 ∙ sym old)
    (λ k low. c.loop-at.invariant.0 k (omega (arith, low, old, end, c.loop-at-test.false)))
