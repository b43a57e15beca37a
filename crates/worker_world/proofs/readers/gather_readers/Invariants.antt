use Rattle.std.proofs.Common.{◌≡◌, ℕ, ◌+◌, ◌<◌, length}
use Rattle.px_base.specs.Graphs.{row_at}
use Rattle.placed_parts.specs.Places.{master_count, placed_row}
use Rattle.worker_world.specs.Readers.{AreMasters, ReadsRow}
use Rattle.worker_world.proofs.readers.gather_readers.Given as goal

-- each master so far is a reader of what its row reads
abbrev pub invariant-loop-k : goal.invariant-loop-k
invariant-loop-k l = record {
  size : length l.readers ≡ master_count l.part + length l.part.mirrors;
  masters : AreMasters (master_count l.part) l.readers;
  each : (j : ℕ) → j < l.k → ReadsRow l.readers j (placed_row l.part (row_at l.part.rows j));
}
