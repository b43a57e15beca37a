use Rattle.std.proofs.Common.{◌≡◌, ◌+◌, ◌-◌, ◌≤◌, drop, length}
use Rattle.command_words.specs.CommandTable.{line_of}
use Rattle.command_words.specs.CommandWords.{items_of}
use Rattle.command_words.specs.Judging.{accepted_from}
use Rattle.command_words.proofs.judging.all_accepted.Given as goal

abbrev pub invariant-loop-at : goal.invariant-loop-at
invariant-loop-at l = record {
  inside : l.at ≤ length l.words;
  few : l.found.positionals + 1 ≤ l.at;
  so_far : accepted_from (line_of l.command) l.initial.found (items_of (line_of l.command) (drop 1 l.words)) ≡ accepted_from (line_of l.command) l.found (items_of (line_of l.command) (drop l.at l.words));
}

abbrev pub decreases-loop-at : goal.decreases-loop-at
decreases-loop-at l = length l.words - l.at
