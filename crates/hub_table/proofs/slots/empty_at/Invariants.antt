use Rattle.std.proofs.Common.{◌≡◌, ℕ, true, drop, length}
use Rattle.px_base.specs.Values.{is_listed}
use Rattle.hub_table.specs.Slots.{is_filled}
use Rattle.hub_table.proofs.slots.empty_at.Given as goal

-- what is still filled is still to come
abbrev pub invariant-loop-k : goal.invariant-loop-k
invariant-loop-k l = ((j : ℕ) → is_filled l.slots.items j ≡ true → is_listed (drop l.k-index l.used) j ≡ true) × (length l.slots.items ≡ length l.initial.slots.items)
