use Rattle.std.proofs.Common.{◌≡◌, ℕ, ◌<◌, length, get_or, take}
use Rattle.std.specs.Prelude.{if◌then◌else◌}
use Rattle.px_base.specs.Values.{is_listed}
use Rattle.count_world.proofs.lists.wipe_at.Given as goal

-- the members so far have 0, and the others are as they were
abbrev pub invariant-loop-k : goal.invariant-loop-k
invariant-loop-k l = record {
  size : length l.items.items ≡ length l.fn.items.items;
  wiped : (j : ℕ) → j < length l.fn.items.items → get_or l.items.items j 0 ≡ (if is_listed (take l.k-index l.members) j then 0 else get_or l.fn.items.items j 0);
}
