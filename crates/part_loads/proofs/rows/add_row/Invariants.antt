use Rattle.std.proofs.Common.{◌≡◌, ◌++◌, map, take}
use Rattle.part_loads.specs.Loads.{read_of}
use Rattle.part_loads.proofs.rows.add_row.Given as goal

-- the reads so far stand in the open row
abbrev pub invariant-loop-triple : goal.invariant-loop-triple
invariant-loop-triple l = l.rows ≡ record { done = l.fn.rows.done; open_row = l.fn.rows.open_row ++ map read_of (take l.triple-index l.triples) }
