use Rattle.std.proofs.Common.{◌≡◌, ℕ, ◌<◌, length, get_or, take, drop}
use Rattle.std.specs.Prelude.{slice_index}
use Rattle.px_base.specs.Pulls.{master_pull}
use Rattle.px_base.specs.ValueSteps.{renewed_value}
use Rattle.placed_parts.specs.Places.{master_count}
use Rattle.worker_world.proofs.pulls.write_mex.Given as goal

-- each master so far has its new value, and the table its length
abbrev pub invariant-loop-k : goal.invariant-loop-k
invariant-loop-k l = record {
  renewed : (j : ℕ) → j < l.k → get_or l.next j 0
      ≡ renewed_value l.core (slice_index (take (master_count l.part) l.values) j) (master_pull l.part l.core (take (master_count l.part) l.values) (drop (master_count l.part) l.values) j);
  room : length l.stamps.marks.items ≡ length l.initial.stamps.marks.items;
}
