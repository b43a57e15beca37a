use Rattle.std.proofs.Common.{◌≡◌, ℕ, ◌<◌, length, get_or, take}
use Rattle.std.specs.Prelude.{if◌then◌else◌}
use Rattle.count_world.specs.Sets.{is_updated}
use Rattle.count_world.proofs.saved.copy_updated.Given as goal

-- those of the updates so far are copied
abbrev pub invariant-loop-update : goal.invariant-loop-update
invariant-loop-update l = record {
  size : length l.to.items ≡ length l.fn.to.items;
  copied : (j : ℕ) → j < length l.fn.to.items → get_or l.to.items j 0 ≡ (if is_updated l.part.low (take l.update-index l.updates) j then get_or l.from j 0 else get_or l.fn.to.items j 0);
}
