use Rattle.std.proofs.Common.{◌≤◌, map, take}
use Rattle.std.specs.Prelude.{All, slice_index}
use Rattle.worker_world.specs.Stamped.{IsStamped}
use Rattle.worker_world.proofs.stamps.stamp_at.Given as goal

-- the numbers of the places so far have the stamp
abbrev pub invariant-loop-place : goal.invariant-loop-place
invariant-loop-place g l = record {
  stamped : IsStamped l.stamp (map (λ s. g.E.SourceRule.source_value l.rule (slice_index l.values s)) (take l.place-index l.places)) l.marks;
  older : All (λ mark. mark ≤ l.stamp) l.marks;
}
