use Rattle.std.proofs.Common.{◌≡◌, ◌++◌, take}
use Rattle.graph_forms.proofs.order.push_row.Given as goal

-- the reads so far stand in the open row
abbrev pub invariant-loop-read : goal.invariant-loop-read
invariant-loop-read l = l.rows ≡ record { done = l.fn.rows.done; open_row = l.fn.rows.open_row ++ take l.read-index l.reads }
