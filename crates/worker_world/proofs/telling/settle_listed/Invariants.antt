use Rattle.std.proofs.Common.{◌≡◌, ℕ, ◌<◌, ◌≤◌, false, length, get_or, drop}
use Rattle.px_base.specs.Values.{is_listed}
use Rattle.placed_parts.specs.Places.{master_count}
use Rattle.worker_world.specs.Due.{StaysDue, AreTold}
use Rattle.worker_world.proofs.telling.settle_listed.Given as goal

-- all masters but those to come have their next values, and their readers are told
abbrev pub invariant-loop-place : goal.invariant-loop-place
invariant-loop-place l = record {
  size : length l.values.items ≡ length l.fn.values.items;
  done : (k : ℕ) → k < master_count l.part → is_listed (drop l.place-index l.masters) k ≡ false → get_or l.values.items k 0 ≡ get_or l.next k 0;
  rest : (k : ℕ) → master_count l.part ≤ k → get_or l.values.items k 0 ≡ get_or l.fn.values.items k 0;
  told : AreTold (master_count l.part) l.readers l.due l.fn.values.items l.values.items;
  stays : StaysDue l.fn.due l.due;
}
