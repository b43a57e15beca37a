use Rattle.std.proofs.Common.{◌≡◌, ◌++◌, [], List, take}
use Rattle.px_base.specs.declared.graph.Read.{Read}
use Rattle.graph_forms.specs.Ordering.{AreRowsOf}
use Rattle.graph_forms.proofs.order.add_rows.Given as goal

-- the rows so far are done
abbrev pub invariant-loop-j : goal.invariant-loop-j
invariant-loop-j l = record {
  open_row : l.rows.open_row ≡ [];
  done : (before : List (List Read)) → AreRowsOf before l.fn.rows.done → AreRowsOf (before ++ take l.j l.more) l.rows.done;
}
