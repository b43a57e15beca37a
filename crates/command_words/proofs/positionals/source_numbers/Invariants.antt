use Rattle.std.proofs.Common.{◌≡◌, ◌+◌, ◌++◌, true, length, map}
use Rattle.px_base.specs.Text.{number_of}
use Rattle.command_words.specs.Judging.{AreItems, are_sources, positionals_from}
use Rattle.command_words.proofs.positionals.source_numbers.Given as goal

abbrev pub invariant-loop : goal.invariant-loop
invariant-loop l = record {
  items : AreItems l.command l.words l.at;
  sources : are_sources (positionals_from l.command l.words l.at) ≡ true;
  left : length (positionals_from l.command l.words l.at) + l.counter ≡ l.count;
  taken : l.found.items ++ map number_of (positionals_from l.command l.words l.at) ≡ map number_of (positionals_from l.command l.words l.from);
}
