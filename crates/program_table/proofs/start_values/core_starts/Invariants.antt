use Rattle.std.proofs.Common.{◌≡◌, map, take}
use Rattle.px_base.specs.Core.{core_value}
use Rattle.program_table.proofs.start_values.core_starts.Given as goal

-- the core values so far
abbrev pub invariant-loop-start : goal.invariant-loop-start
invariant-loop-start l = l.found.items ≡ map (core_value l.core) (take l.start-index l.starts)
