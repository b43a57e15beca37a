use Rattle.std.proofs.Common.{◌≡◌, ℕ, ◌<◌, ◌-◌, [], length, get_or, replicate}
use Rattle.std.specs.List.{range_with_len}
use Rattle.px_base.specs.Parts.{low_of, high_of}
use Rattle.hub_table.specs.Tables.{mails, tables}
use Rattle.hub_table.proofs.each.master_inboxes.Given as goal

-- an empty inbox for the masters of each part so far
abbrev pub invariant-loop-i : goal.invariant-loop-i
invariant-loop-i l = record {
  count : length l.inboxes.items ≡ l.i;
  so_far : (k : ℕ) → k < l.i → get_or (tables l.inboxes.items) k [] ≡ range_with_len (low_of l.cuts.ends k) (high_of l.cuts.ends k - low_of l.cuts.ends k);
  empty : mails l.inboxes.items ≡ replicate (length l.inboxes.items) [];
}
