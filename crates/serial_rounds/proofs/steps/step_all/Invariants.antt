use Rattle.std.proofs.Common.{◌≡◌, ℕ, ◌<◌, ◌≤◌, [], length, get_or}
use Rattle.px_base.specs.Worlds.{World}
use Rattle.serial_rounds.specs.declared.steps.Sent.{Sent}
use Rattle.serial_rounds.specs.Stepped.{IsStepped}
use Rattle.serial_rounds.proofs.steps.step_all.Given as goal

-- the workers so far are stepped, and the others as they were
abbrev pub invariant-loop-i : goal.invariant-loop-i
invariant-loop-i g l = record {
  worlds : length l.worlds ≡ length l.fn.worlds;
  inboxes : length l.inboxes ≡ length l.fn.inboxes;
  count : length l.sent.items ≡ l.i;
  stepped : (k : ℕ) (d : World) (s : Sent) → k < l.i → IsStepped l.round (get_or l.fn.worlds k d) (get_or l.fn.inboxes k []) (get_or l.worlds k d) (get_or l.sent.items k s);
  empty : (k : ℕ) → k < l.i → get_or l.inboxes k [] ≡ [];
  worlds_left : (k : ℕ) (d : World) → l.i ≤ k → get_or l.worlds k d ≡ get_or l.fn.worlds k d;
  inboxes_left : (k : ℕ) → l.i ≤ k → get_or l.inboxes k [] ≡ get_or l.fn.inboxes k [];
}
