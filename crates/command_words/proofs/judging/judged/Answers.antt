use Rattle.std.proofs.Common.{◌∙◌, ◌<◌, ◌≤◌, drop, length, arith}
use Rattle.command_words.specs.CommandTable.{line_of}
use Rattle.command_words.specs.CommandWords.{items_of}
use Rattle.command_words.proofs.Accepting.{refused, too_few, enough}
use Rattle.command_words.proofs.judging.judged.Goals as goal

pub returns-in_err-found : goal.returns-in_err-found
returns-in_err-found c =
    let line = line_of c.args.command in
    c.from_residual.ensures ∙ refused line (items_of line (drop 1 c.args.words.now)) c.in_err-found.ensures

pub returns-then-found-least_positionals : goal.returns-then-found-least_positionals
returns-then-found-least_positionals c =
    let line = line_of c.args.command in
    let few : c.in_ok-found.found.positionals < length line.positionals = omega arith in
    too_few line (items_of line (drop 1 c.args.words.now)) c.in_ok-found.found c.in_ok-found.ensures few

pub returns-else-found-least_positionals : goal.returns-else-found-least_positionals
returns-else-found-least_positionals c =
    let line = line_of c.args.command in
    let many : length line.positionals ≤ c.in_ok-found.found.positionals = omega arith in
    enough line (items_of line (drop 1 c.args.words.now)) c.in_ok-found.found c.in_ok-found.ensures many
