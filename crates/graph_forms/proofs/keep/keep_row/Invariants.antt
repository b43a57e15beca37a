use Rattle.std.proofs.Common.{◌≡◌, take}
use Rattle.std.specs.Prelude.{filter}
use Rattle.px_base.specs.Graphs.{row_at, stands_before}
use Rattle.graph_forms.proofs.keep.keep_row.Given as goal

-- those of the reads so far
abbrev pub invariant-loop-k : goal.invariant-loop-k
invariant-loop-k l = l.kept ≡ record { done = l.fn.kept.done; open_row = filter (λ r. stands_before l.rank l.degrees r.source l.v) (take l.k (row_at l.rows l.v)) }
