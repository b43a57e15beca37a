use Rattle.std.proofs.Common.{◌≡◌, ◌++◌, [], List, take}
use Rattle.px_base.specs.declared.graph.Read.{Read}
use Rattle.graph_forms.specs.Ordering.{AreOnce}
use Rattle.graph_forms.proofs.units.add_rows.Given as goal

-- the rows so far are done
abbrev pub invariant-loop-j : goal.invariant-loop-j
invariant-loop-j l = record {
  open_row : l.rows.open_row ≡ [];
  done : (before : List (List Read)) → AreOnce before l.fn.rows.done → AreOnce (before ++ take l.j l.more) l.rows.done;
}
