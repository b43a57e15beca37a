use Rattle.std.proofs.Common.{◌+◌, get_or, []}
use Rattle.command_words.specs.Judging.{items_after, positionals_from}
use Rattle.command_words.proofs.RightWords.{has_program, has_sources}
use Rattle.command_words.proofs.reader.sources.Goals as goal

pub next_positional-from-requires-clause-one : goal.next_positional-from-requires-clause-one
next_positional-from-requires-clause-one c = has_program c.args.command (items_after c.args.command c.args.words.now) c.requires.takes c.requires.right.right

pub source_numbers-requires-clause-sources : goal.source_numbers-requires-clause-sources
source_numbers-requires-clause-sources c =
    has_sources c.args.command (items_after c.args.command c.args.words.now) (get_or c.args.words.now c.next_positional-from.result [])
    (positionals_from c.args.command c.args.words.now (c.next_positional-from.result + 1)) c.requires.takes c.requires.sources c.requires.right.right c.next_positional-from.ensures.next
