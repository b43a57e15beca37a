use Rattle.std.proofs.Common.{◌+◌, ◌-◌, take}
use Rattle.std.specs.Prelude.{◌==◌, if◌then◌else◌}
use Rattle.px_base.specs.Graphs.{reads_passing}
use Rattle.count_world.specs.Readers.{HasGrown}
use Rattle.count_world.proofs.readers.add_row.Given as goal

-- the reads so far are added
abbrev pub invariant-loop-k : goal.invariant-loop-k
invariant-loop-k l = HasGrown (l.part.high - l.part.low) l.fn.readers l.readers (λ i j. if l.reader == j then reads_passing (λ u. u == l.part.low + i) (take l.k l.row) else 0)
