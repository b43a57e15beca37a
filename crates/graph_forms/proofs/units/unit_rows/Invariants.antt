use Rattle.std.proofs.Common.{◌≡◌, []}
use Rattle.row_blocks.specs.Telling.{rows_told}
use Rattle.row_blocks.proofs.RowsMade.{high_of}
use Rattle.graph_forms.specs.Ordering.{AreOnce}
use Rattle.graph_forms.proofs.units.unit_rows.Given as goal

-- the rows of the blocks so far
abbrev pub invariant-loop-b : goal.invariant-loop-b
invariant-loop-b l = record {
  open_row : l.rows.open_row ≡ [];
  done : AreOnce (rows_told (high_of l.n l.b) l.blocks.told.items) l.rows.done;
}
