use Rattle.std.proofs.Common.{◌≡◌, ℕ, ◌<◌, ◌++◌, ◌∷◌, [], cond, length, take, get_or}
use Rattle.px_base.specs.Values.{is_listed}
use Rattle.serial_rounds.proofs.inboxes.deliver_update.Given as goal

-- the workers of the route so far have the update
abbrev pub invariant-loop-j : goal.invariant-loop-j
invariant-loop-j l = record {
  count : length l.inboxes ≡ length l.fn.inboxes;
  so_far : (k : ℕ) → k < length l.inboxes → get_or l.inboxes k [] ≡ get_or l.fn.inboxes k [] ++ cond (is_listed (take l.j-index l.route) k) (l.update ∷ []) [];
}
