use Rattle.std.proofs.Common.{Some, lit<}
use Rattle.std.specs.Option.{option_map}
use Rattle.std.proofs.lemmas.Str.Pattern.{split_once_first}
use Rattle.command_words.specs.CommandTable.{line_of}
use Rattle.command_words.specs.Judging.{item_with}
use Rattle.command_words.proofs.ItemSteps.{joined}
use Rattle.command_words.proofs.items.joined_item.Goals as goal

pub returns : goal.returns
returns c =
    let parts = split_once_first 61 c.args.word.now (Some (c.in_ok-name.name, c.in_ok-name.value)) c.in_ok-name.ensures.cases (lit< tt) in
    joined (line_of c.args.command) c.args.word.now c.in_ok-name.name.now c.in_ok-name.value.now c.in_ok-option.option (option_map (item_with c.args.word.now) c.option_item.result)
    parts.0 parts.1 parts.2 c.in_ok-option.ensures (c.option_item.ensures.item c.args.word.now)
