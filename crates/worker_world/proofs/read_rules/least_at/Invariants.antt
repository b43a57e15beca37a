use Rattle.std.proofs.Common.{◌≡◌, map, take}
use Rattle.std.specs.Prelude.{slice_index}
use Rattle.px_base.specs.Rules.{least}
use Rattle.worker_world.proofs.read_rules.least_at.Given as goal

-- the least so far is what the places so far give
abbrev pub invariant-loop-place : goal.invariant-loop-place
invariant-loop-place g l = l.best ≡ least l.start (map (λ s. g.E.SourceRule.source_value l.rule (slice_index l.values s)) (take l.place-index l.places))
