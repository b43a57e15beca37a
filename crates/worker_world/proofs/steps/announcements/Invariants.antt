use Rattle.std.proofs.Common.{◌≡◌, ◌-◌, map, take}
use Rattle.std.specs.Prelude.{◌||◌, filter, slice_index}
use Rattle.px_base.specs.ValueSteps.{has_changed}
use Rattle.worker_world.proofs.steps.announcements.Given as goal

-- what the boundary so far announces
abbrev pub invariant-loop-v : goal.invariant-loop-v
invariant-loop-v l =
    l.updates.items ≡ map (λ v. record { vertex = v; value = slice_index l.after (v - l.part.low) })
    (filter (λ v. l.all || has_changed l.before l.after (v - l.part.low)) (take l.v-index l.v-items))
