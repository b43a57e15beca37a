use Rattle.std.proofs.Common.{◌≡◌, ℕ, ◌-◌, ◌<◌, length, get_or, take}
use Rattle.std.specs.Prelude.{sum_by}
use Rattle.count_world.specs.Census.{KeepsCensus}
use Rattle.count_world.specs.Readers.{times_listed}
use Rattle.count_world.proofs.readers.take_off.Given as goal

-- the members so far are taken off
abbrev pub invariant-loop-k : goal.invariant-loop-k
invariant-loop-k l = record {
  kept : KeepsCensus l.fn.census l.census;
  size : length l.census.counts.items ≡ length l.fn.census.counts.items;
  counts : (j : ℕ) → j < length l.fn.census.counts.items → get_or l.census.counts.items j 0 ≡ get_or l.fn.census.counts.items j 0 - sum_by (λ k. times_listed l.readers k j) (take l.k-index l.members);
}
