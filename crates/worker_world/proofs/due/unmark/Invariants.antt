use Rattle.std.proofs.Common.{◌≡◌, ℕ, true, false, get_or, drop}
use Rattle.px_base.specs.Values.{is_listed}
use Rattle.worker_world.proofs.due.unmark.Given as goal

-- who is still marked is still to come
abbrev pub invariant-loop-k : goal.invariant-loop-k
invariant-loop-k l = (j : ℕ) → get_or l.marked j false ≡ true → is_listed (drop l.k-index l.masters) j ≡ true
