use Rattle.std.proofs.Common.{◌≡◌, take}
use Rattle.px_base.specs.Rules.{least}
use Rattle.worker_world.specs.Placed.{read_items}
use Rattle.worker_world.proofs.read_rules.least_read.Given as goal

-- the least so far is what the reads so far give
abbrev pub invariant-loop-k : goal.invariant-loop-k
invariant-loop-k g l = l.best ≡ least l.start (read_items (g.E.ReadRule.read_value l.rule) l.values (take l.k l.row))
