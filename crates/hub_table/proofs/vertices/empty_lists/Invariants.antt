use Rattle.std.proofs.Common.{◌≡◌, ℕ, [], length, get_or}
use Rattle.hub_table.proofs.vertices.empty_lists.Given as goal

-- empty inboxes so far
abbrev pub invariant-loop : goal.invariant-loop
invariant-loop l = record {
  count : length l.lists.items ≡ l.counter;
  empty : (k : ℕ) → get_or l.lists.items k [] ≡ [];
}
