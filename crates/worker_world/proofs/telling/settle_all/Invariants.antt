use Rattle.std.proofs.Common.{◌≡◌, ℕ, ◌<◌, ◌≤◌, length, get_or}
use Rattle.placed_parts.specs.Places.{master_count}
use Rattle.worker_world.specs.Due.{StaysDue, AreTold}
use Rattle.worker_world.proofs.telling.settle_all.Given as goal

-- the masters so far have their next values, and their readers are told
abbrev pub invariant-loop-place : goal.invariant-loop-place
invariant-loop-place l = record {
  size : length l.values.items ≡ length l.fn.values.items;
  done : (k : ℕ) → k < l.place → get_or l.values.items k 0 ≡ get_or l.next k 0;
  rest : (k : ℕ) → l.place ≤ k → get_or l.values.items k 0 ≡ get_or l.fn.values.items k 0;
  told : AreTold (master_count l.part) l.readers l.due l.fn.values.items l.values.items;
  stays : StaysDue l.fn.due l.due;
}
