use Rattle.std.proofs.Common.{◌≡◌, ◌++◌, map, take, vec_capacity}
use Rattle.hub_table.specs.Slots.{update_at}
use Rattle.hub_table.proofs.slots.copy_used.Given as goal

-- the updates of the places so far, in the same memory
abbrev pub invariant-loop-k : goal.invariant-loop-k
invariant-loop-k l = (l.out.items ≡ l.initial.out.items ++ map (update_at l.places l.slots) (take l.k-index l.used)) × (vec_capacity l.out ≡ vec_capacity l.initial.out)
