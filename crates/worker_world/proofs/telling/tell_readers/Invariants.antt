use Rattle.std.proofs.Common.{◌≡◌, ℕ, ◌<◌, true, false, length}
use Rattle.std.specs.Prelude.{All}
use Rattle.px_base.specs.Values.{is_listed}
use Rattle.placed_parts.specs.Places.{master_count}
use Rattle.worker_world.specs.Readers.{is_reader}
use Rattle.worker_world.specs.Due.{is_due, StaysDue}
use Rattle.worker_world.proofs.telling.tell_readers.Given as goal

-- a reader that isn't due yet is still to come
abbrev pub invariant-loop-due : goal.invariant-loop-due
invariant-loop-due l = record {
  masters : All (λ k. k < master_count l.part) l.left;
  left : (k : ℕ) → is_reader l.readers l.place k ≡ true → is_due l.due k ≡ false → is_listed l.left k ≡ true;
  stays : StaysDue l.fn.due l.due;
}

abbrev pub decreases-loop-due : goal.decreases-loop-due
decreases-loop-due l = length l.left
