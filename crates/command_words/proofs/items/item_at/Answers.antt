use Rattle.std.proofs.Common.{arith, ap, ◌∙◌, get_or, [], ◌+◌, length, ◌<◌}
use Rattle.std.specs.Option.{option_map}
use Rattle.command_words.specs.CommandTable.{line_of}
use Rattle.command_words.specs.CommandWords.{option_in, option_item}
use Rattle.command_words.specs.Judging.{item_with}
use Rattle.command_words.proofs.ItemSteps.{item_of_two}
use Rattle.command_words.proofs.items.item_at.Goals as goal

pub returns-else-at-end-clause-item : goal.returns-else-at-end-clause-item
returns-else-at-end-clause-item c =
    let word = get_or c.args.words.now c.args.at [] in
    let inside : c.args.at + 1 < length c.args.words.now = omega arith in
    let found = c.in-Some.ensures ∙ ap (option_in (line_of c.args.command).options) c.word.ensures in
    let item = c.option_item.ensures.item word ∙ ap (option_item c.in-Some.option) c.word-else-at-end.ensures in
    item_of_two (line_of c.args.command) c.args.words.now c.args.at c.in-Some.option (option_map (item_with word) c.option_item.result) inside found item
