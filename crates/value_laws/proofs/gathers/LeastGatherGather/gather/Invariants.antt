use Rattle.std.proofs.Common.{◌≡◌, take}
use Rattle.px_base.specs.Rules.{least}
use Rattle.value_laws.proofs.gathers.LeastGatherGather.gather.Given as goal

-- the least so far
abbrev pub invariant-loop-item : goal.invariant-loop-item
invariant-loop-item l = l.best ≡ least l.start (take l.item-index l.items)
