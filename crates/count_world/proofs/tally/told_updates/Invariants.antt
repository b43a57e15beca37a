use Rattle.std.proofs.Common.{◌≡◌, get_or, map, take}
use Rattle.count_world.proofs.tally.told_updates.Given as goal

-- those so far
abbrev pub invariant-loop-i : goal.invariant-loop-i
invariant-loop-i l = l.updates.items ≡ map (λ i. record { vertex = get_or l.mirrors i 0; value = get_or l.times i 0 }) (take l.i-index l.touched)
