use Rattle.std.proofs.Common.{◌≡◌, ℕ, ◌<◌, length, get_or}
use Rattle.px_base.specs.Graphs.{row_at}
use Rattle.count_world.proofs.census.put_row_lengths.Given as goal

-- the lengths so far
abbrev pub invariant-loop-k : goal.invariant-loop-k
invariant-loop-k l = record {
  size : length l.counts.items ≡ length l.fn.counts.items;
  lengths : (j : ℕ) → j < l.k → get_or l.counts.items j 0 ≡ length (row_at l.part.rows j);
}
