use Rattle.std.proofs.Common.{◌≡◌, ℕ, ◌<◌, [], length, take, get_or}
use Rattle.serial_rounds.specs.Mail.{mail_for}
use Rattle.serial_rounds.proofs.inboxes.deliver.Given as goal

-- what the workers so far sent is delivered
abbrev pub invariant-loop-by_one : goal.invariant-loop-by_one
invariant-loop-by_one l = record {
  count : length l.inboxes ≡ length l.fn.inboxes;
  so_far : (k : ℕ) → k < length l.inboxes → get_or l.inboxes k [] ≡ mail_for l.routes k (take l.by_one-index l.sent);
}
