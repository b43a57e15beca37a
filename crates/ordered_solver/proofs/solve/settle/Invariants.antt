use Rattle.std.proofs.Common.{◌≡◌, ◌≤◌, length, vec_len}
use Rattle.std.specs.Prelude.{All}
use Rattle.px_base.specs.Values.{IsValueList}
use Rattle.ordered_solver.proofs.Settled.{AreSettled}
use Rattle.ordered_solver.proofs.solve.settle.Given as goal

-- the vertices so far have what they gather, and no stamp is above their number
abbrev pub invariant-loop-turn : goal.invariant-loop-turn
invariant-loop-turn l = record {
  values : IsValueList (length l.rows) l.values.items;
  settled : AreSettled l.program l.rows l.starts l.order l.turn l.values.items;
  old : All (λ s. s ≤ l.turn) l.stamps.items;
  room : vec_len l.stamps ≡ vec_len l.initial.stamps;
}
