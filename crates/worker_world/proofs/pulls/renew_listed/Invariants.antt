use Rattle.std.proofs.Common.{◌≡◌, ℕ, true, false, length, get_or, take}
use Rattle.px_base.specs.Values.{is_listed}
use Rattle.worker_world.specs.Placed.{renewed_at}
use Rattle.worker_world.proofs.pulls.renew_listed.Given as goal

-- the masters so far have their new values
abbrev pub invariant-loop-master : goal.invariant-loop-master
invariant-loop-master l = record {
  size : length l.next.items ≡ length l.fn.next.items;
  renewed : (k : ℕ) → is_listed (take l.master-index l.masters) k ≡ true → get_or l.next.items k 0 ≡ renewed_at l.part l.core l.values k;
  kept : (k : ℕ) → is_listed l.masters k ≡ false → get_or l.next.items k 0 ≡ get_or l.fn.next.items k 0;
  room : length l.stamps.marks.items ≡ length l.fn.stamps.marks.items;
}
