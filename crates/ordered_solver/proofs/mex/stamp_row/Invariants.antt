use Rattle.std.proofs.Common.{◌≡◌, ◌≤◌, length, take, vec_len}
use Rattle.std.specs.Prelude.{All}
use Rattle.px_base.specs.Rules.{edge_values}
use Rattle.ordered_solver.proofs.Stamping.{Marks}
use Rattle.ordered_solver.proofs.mex.stamp_row.Given as goal

-- the table tells of the edge values so far
abbrev pub invariant-loop-k : goal.invariant-loop-k
invariant-loop-k l = record {
  marks : Marks (length l.row) l.stamp l.stamps.items (edge_values l.along l.values (take l.k l.row));
  old : All (λ s. s ≤ l.stamp) l.stamps.items;
  room : vec_len l.stamps ≡ vec_len l.initial.stamps;
}
