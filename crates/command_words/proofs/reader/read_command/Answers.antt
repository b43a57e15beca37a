use Rattle.std.proofs.Common.{◌<◌, ◌∙◌, sym, ap, length, arith}
use Rattle.std.specs.Prelude.{Some, is_some}
use Rattle.command_words.specs.CommandTable.{commands}
use Rattle.command_words.specs.CommandWords.{command_in}
use Rattle.command_words.proofs.RightWords.{no_words, no_command, wrong_words, right_words, is_found, on_error}
use Rattle.command_words.proofs.reader.read_command.Goals as goal

pub returns-then-len-eq0-clause-command : goal.returns-then-len-eq0-clause-command
returns-then-len-eq0-clause-command c = no_words c.args.words.now (omega arith)

pub returns-in_default-clause-command : goal.returns-in_default-clause-command
returns-in_default-clause-command c =
    let some : 0 < length c.args.words.now = omega arith in
    no_command c.args.words.now some (c.in_default.ensures ∙ ap (command_in commands) c.word.ensures)

pub returns-in_default-judged-clause-command : goal.returns-in_default-judged-clause-command
returns-in_default-judged-clause-command c =
    let some : 0 < length c.args.words.now = omega arith in
    wrong_words c.args.words.now c.in-Some.command some (c.in-Some.ensures ∙ ap (command_in commands) c.word.ensures) c.in_default-judged.ensures

pub command_said-requires : goal.command_said-requires
command_said-requires c = is_found c.in-Some.command c.args.words.now c.in-Some-judged.found c.in-Some-judged.ensures

pub returns-in_err-said-clause-wants : goal.returns-in_err-said-clause-wants
returns-in_err-said-clause-wants c =
    let some : 0 < length c.args.words.now = omega arith in
    let right = is_found c.in-Some.command c.args.words.now c.in-Some-judged.found c.in-Some-judged.ensures in
    let said = right_words c.args.words.now c.in-Some.command c.in-Some-judged.found some (c.in-Some.ensures ∙ ap (command_in commands) c.word.ensures) right in
    on_error c.from_residual.result (sym (ap is_some said))

pub returns-clause-command : goal.returns-clause-command
returns-clause-command c =
    let some : 0 < length c.args.words.now = omega arith in
    let right = is_found c.in-Some.command c.args.words.now c.in-Some-judged.found c.in-Some-judged.ensures in
    let said = right_words c.args.words.now c.in-Some.command c.in-Some-judged.found some (c.in-Some.ensures ∙ ap (command_in commands) c.word.ensures) right in
    ap Some c.in_ok-said.ensures.said ∙ said
