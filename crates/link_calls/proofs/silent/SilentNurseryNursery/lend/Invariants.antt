use Rattle.std.proofs.Common.{◌≡◌}
use Rattle.px_base.specs.Values.{by_position}
use Rattle.link_calls.specs.Silent.{CarryValues}
use Rattle.link_calls.proofs.Lending.{silent_spawner}
use Rattle.link_calls.proofs.silent.SilentNurseryNursery.lend.Given as goal

-- those so far, and the answers that are left carry values
abbrev pub invariant-loop-worker : goal.invariant-loop-worker
invariant-loop-worker l = (l.all.items ≡ by_position l.worker silent_spawner) × CarryValues l.answers.items
