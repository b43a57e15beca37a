use Rattle.std.proofs.Common.{◌≡◌, ◌++◌, map, take}
use Rattle.px_base.specs.Graphs.{unit_read}
use Rattle.graph_forms.proofs.units.push_units.Given as goal

-- the reads so far stand in the open row
abbrev pub invariant-loop-source : goal.invariant-loop-source
invariant-loop-source l = l.rows ≡ record { done = l.fn.rows.done; open_row = l.fn.rows.open_row ++ map unit_read (take l.source-index l.members) }
