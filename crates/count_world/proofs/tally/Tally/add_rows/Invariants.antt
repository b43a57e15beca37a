use Rattle.std.proofs.Common.{take, get_or}
use Rattle.count_world.specs.Tally.{RaisesTally}
use Rattle.count_world.specs.Told.{times_of}
use Rattle.count_world.proofs.tally.Tally.add_rows.Given as goal

-- the rows of the members so far are added
abbrev pub invariant-loop-k : goal.invariant-loop-k
invariant-loop-k l = RaisesTally l.fn.self l.self (λ i. times_of l.part.rows (take l.k-index l.members) (get_or l.part.mirrors i 0))
