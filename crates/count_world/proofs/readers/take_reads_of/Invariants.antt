use Rattle.std.proofs.Common.{◌≡◌, ℕ, ◌-◌, ◌<◌, length}
use Rattle.std.specs.Prelude.{All, ◌==◌, count_by, slice_index}
use Rattle.count_world.specs.Census.{KeepsCensus}
use Rattle.count_world.specs.Readers.{times_listed}
use Rattle.count_world.proofs.readers.take_reads_of.Given as goal

-- the readers that are left are still to be taken off
abbrev pub invariant-loop-reader : goal.invariant-loop-reader
invariant-loop-reader l = record {
  inside : All (λ reader. reader < length l.fn.census.alive.items) l.reader-iterator;
  kept : KeepsCensus l.fn.census l.census;
  size : length l.census.counts.items ≡ length l.fn.census.counts.items;
  left : (j : ℕ) → j < length l.fn.census.counts.items → slice_index l.census.counts.items j - count_by (λ reader. reader == j) l.reader-iterator ≡ slice_index l.fn.census.counts.items j - times_listed l.readers l.k j;
}
