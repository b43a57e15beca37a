use Rattle.std.proofs.Common.{◌≡◌, ◌≤◌, [], take}
use Rattle.px_base.specs.Values.{by_position}
use Rattle.px_base.specs.Graphs.{read_count}
use Rattle.graph_forms.specs.Ordering.{earlier_reads}
use Rattle.graph_forms.proofs.keep.earlier_rows.Given as goal

-- the rows so far
abbrev pub invariant-loop-v : goal.invariant-loop-v
invariant-loop-v l = record {
  made : l.kept ≡ record { done = by_position l.v (earlier_reads l.rank l.degrees l.rows); open_row = [] };
  fewer : read_count l.kept.done ≤ read_count (take l.v l.rows);
}
