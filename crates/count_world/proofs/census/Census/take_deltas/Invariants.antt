use Rattle.std.proofs.Common.{◌≡◌, ℕ, ◌+◌, ◌-◌, ◌<◌, length, get_or, take}
use Rattle.px_base.specs.CountSteps.{delta_of}
use Rattle.count_world.specs.Census.{KeepsCensus}
use Rattle.count_world.proofs.census.Census.take_deltas.Given as goal

-- each count is less what the updates so far take off it
abbrev pub invariant-loop-update : goal.invariant-loop-update
invariant-loop-update l = record {
  kept : KeepsCensus l.fn.self l.self;
  size : length l.self.counts.items ≡ length l.fn.self.counts.items;
  counts : (j : ℕ) → j < length l.fn.self.counts.items → get_or l.self.counts.items j 0 ≡ get_or l.fn.self.counts.items j 0 - delta_of (take l.update-index l.updates) (l.part.low + j);
}
