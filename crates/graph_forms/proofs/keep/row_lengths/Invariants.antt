use Rattle.std.proofs.Common.{◌≡◌, List, length, map, take}
use Rattle.px_base.specs.declared.graph.Read.{Read}
use Rattle.graph_forms.proofs.keep.row_lengths.Given as goal

-- the lengths of the rows so far
abbrev pub invariant-loop-v : goal.invariant-loop-v
invariant-loop-v l = l.lengths.items ≡ map (λ (row : List Read). length row) (take l.v l.rows)
