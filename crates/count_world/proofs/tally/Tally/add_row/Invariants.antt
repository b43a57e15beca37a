use Rattle.std.proofs.Common.{take, get_or}
use Rattle.std.specs.Prelude.{◌==◌}
use Rattle.px_base.specs.Graphs.{reads_passing}
use Rattle.count_world.specs.Tally.{RaisesTally}
use Rattle.count_world.proofs.tally.Tally.add_row.Given as goal

-- the reads so far are added
abbrev pub invariant-loop-k : goal.invariant-loop-k
invariant-loop-k l = RaisesTally l.fn.self l.self (λ i. reads_passing (λ u. u == get_or l.part.mirrors i 0) (take l.k l.row))
