use Rattle.std.proofs.Common.{◌≡◌, take}
use Rattle.std.specs.Prelude.{All}
use Rattle.px_base.specs.Values.{IsWeight}
use Rattle.graph_forms.proofs.order.copy_row.Given as goal

-- the reads so far
abbrev pub invariant-loop-k : goal.invariant-loop-k
invariant-loop-k l = record {
  reads : l.reads.items ≡ take l.k l.row;
  weights : All (λ r. IsWeight r.weight) l.reads.items;
}
