use Rattle.std.proofs.Common.{◌≡◌, ℕ, false, take, get_or}
use Rattle.std.specs.Prelude.{◌||◌}
use Rattle.px_base.specs.Values.{is_listed}
use Rattle.partitioner.proofs.marks.mark.Given as goal

-- marked so far: what was marked, and the positions so far
abbrev pub invariant-loop-at : goal.invariant-loop-at
invariant-loop-at l = (u : ℕ) → get_or l.marks u false ≡ (get_or l.fn.marks u false || is_listed (take l.at-index l.positions) u)
