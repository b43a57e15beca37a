use Rattle.std.proofs.Common.{◌≡◌, ◌++◌, take, vec_capacity}
use Rattle.hub_table.specs.Slots.{mail_of}
use Rattle.hub_table.proofs.slots.copy_filled.Given as goal

-- the updates in the slots so far, in the same memory
abbrev pub invariant-loop-at : goal.invariant-loop-at
invariant-loop-at l = (l.out.items ≡ l.initial.out.items ++ mail_of (take l.at l.places) (take l.at l.slots)) × (vec_capacity l.out ≡ vec_capacity l.initial.out)
