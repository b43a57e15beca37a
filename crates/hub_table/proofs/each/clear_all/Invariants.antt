use Rattle.std.proofs.Common.{◌≡◌, ℕ, ◌<◌, [], length, get_or}
use Rattle.hub_table.specs.Tables.{mails, tables}
use Rattle.hub_table.proofs.each.clear_all.Given as goal

-- those so far are empty
abbrev pub invariant-loop-at : goal.invariant-loop-at
invariant-loop-at l = ((k : ℕ) → k < l.at → get_or (mails l.inboxes.items) k [] ≡ []) × (tables l.inboxes.items ≡ tables l.initial.inboxes.items) × (length l.inboxes.items ≡ length l.initial.inboxes.items)
