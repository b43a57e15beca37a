use Rattle.std.proofs.Common.{◌≡◌, ℕ, take}
use Rattle.std.specs.Prelude.{◌&&◌, ◌||◌, not}
use Rattle.px_base.specs.Values.{is_listed}
use Rattle.px_base.specs.Parts.{is_within}
use Rattle.partitioner.specs.Bits.{holds}
use Rattle.partitioner.proofs.sets.add_outside.Given as goal

-- what the set had, and the positions so far that are outside
abbrev pub invariant-loop-at : goal.invariant-loop-at
invariant-loop-at l = (u : ℕ) → holds l.set u ≡ (holds l.fn.set u || (not (is_within l.low l.high u) && is_listed (take l.at-index l.positions) u))
