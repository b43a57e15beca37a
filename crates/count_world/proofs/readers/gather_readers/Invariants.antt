use Rattle.std.proofs.Common.{◌≡◌, ℕ, ◌-◌, ◌<◌}
use Rattle.std.specs.Prelude.{nat_lt, if◌then◌else◌}
use Rattle.count_world.specs.Readers.{AreMasters, times_listed, times_in_row}
use Rattle.count_world.proofs.readers.gather_readers.Given as goal

-- the reads of the rows so far are added
abbrev pub invariant-loop-j : goal.invariant-loop-j
invariant-loop-j l = record {
  masters : AreMasters (l.part.high - l.part.low) l.readers;
  times : (k i : ℕ) → k < l.part.high - l.part.low → times_listed l.readers k i ≡ (if nat_lt i l.j then times_in_row l.part k i else 0);
}
