use Rattle.std.proofs.Common.{◌≡◌, ℕ, [], length, get_or}
use Rattle.serial_rounds.proofs.inboxes.empty_inboxes.Given as goal

-- empty inboxes so far
abbrev pub invariant-loop : goal.invariant-loop
invariant-loop l = record {
  count : length l.inboxes.items ≡ l.counter;
  empty : (k : ℕ) → get_or l.inboxes.items k [] ≡ [];
}
