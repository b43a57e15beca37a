use Rattle.std.proofs.Common.{arith}
use Rattle.std.proofs.lemmas.List.{take_all}
use Rattle.program_table.proofs.StartLists.{core_starts_are_values}
use Rattle.program_table.proofs.start_values.core_starts.Goals as goal

pub returns-clause-values : goal.returns-clause-values
returns-clause-values c =
    rw (c.loop-start.invariant, take_all c.loop-start.start-index c.args.starts.now (omega arith)) (core_starts_are_values c.args.core.now c.args.starts.now c.requires)
