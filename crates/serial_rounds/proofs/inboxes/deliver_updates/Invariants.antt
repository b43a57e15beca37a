use Rattle.std.proofs.Common.{◌≡◌, ℕ, ◌<◌, ◌++◌, [], length, take, get_or}
use Rattle.serial_rounds.specs.Mail.{routed_to}
use Rattle.serial_rounds.proofs.inboxes.deliver_updates.Given as goal

-- the updates so far are delivered
abbrev pub invariant-loop-update : goal.invariant-loop-update
invariant-loop-update l = record {
  count : length l.inboxes ≡ length l.fn.inboxes;
  so_far : (k : ℕ) → k < length l.inboxes → get_or l.inboxes k [] ≡ get_or l.fn.inboxes k [] ++ routed_to l.routes k (take l.update-index l.updates);
}
