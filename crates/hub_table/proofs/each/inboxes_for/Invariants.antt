use Rattle.std.proofs.Common.{◌≡◌, ◌++◌, [], length, replicate}
use Rattle.std.specs.Vec.Iter.{into_iter_items}
use Rattle.hub_table.specs.Tables.{mails, tables}
use Rattle.hub_table.proofs.each.inboxes_for.Given as goal

-- an empty inbox for each list so far
abbrev pub invariant-loop-list : goal.invariant-loop-list
invariant-loop-list l = (l.fn.lists.items ≡ tables l.inboxes.items ++ into_iter_items l.list-iterator) × (mails l.inboxes.items ≡ replicate (length l.inboxes.items) [])
