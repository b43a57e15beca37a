use Rattle.std.proofs.Common.{◌≡◌, ◌-◌, length}
use Rattle.command_words.specs.Judging.{AreItems, positionals_from}
use Rattle.command_words.proofs.positionals.next_positional.Given as goal

abbrev pub invariant-loop-at : goal.invariant-loop-at
invariant-loop-at l = record {
  items : AreItems l.command l.words l.at;
  same : positionals_from l.command l.words l.at ≡ positionals_from l.command l.words l.from;
}

abbrev pub decreases-loop-at : goal.decreases-loop-at
decreases-loop-at l = length l.words - l.at
