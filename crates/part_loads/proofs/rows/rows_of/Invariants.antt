use Rattle.std.proofs.Common.{◌≡◌, []}
use Rattle.part_loads.proofs.Runs.{RowsTo}
use Rattle.part_loads.proofs.rows.rows_of.Given as goal

-- the rows of the vertices so far
abbrev pub invariant-loop-v : goal.invariant-loop-v
invariant-loop-v l = record {
  open_row : l.rows.open_row ≡ [];
  done : RowsTo l.low l.v l.triples l.at l.rows.done;
}
