use Rattle.std.proofs.Common.{◌-◌, ◌<◌, ◌≤◌, get_or}
use Rattle.hub_table.proofs.owners.owner_from.Given as goal

-- the part before begins at the vertex or before it
abbrev pub invariant-loop-i : goal.invariant-loop-i
invariant-loop-i l = (0 < l.i) × (get_or l.ends (l.i - 1) 0 ≤ l.vertex)
