use Rattle.command_words.specs.Judging.{items_after}
use Rattle.command_words.proofs.RightWords.{has_program}
use Rattle.command_words.proofs.reader.program.Goals as goal

pub next_positional-requires-clause-one : goal.next_positional-requires-clause-one
next_positional-requires-clause-one c = has_program c.args.command (items_after c.args.command c.args.words.now) c.requires.takes c.requires.right.right
