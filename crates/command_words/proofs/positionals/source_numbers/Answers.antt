use Rattle.std.proofs.Common.{◌+◌, get_or, [], ◌∙◌, ap}
use Rattle.std.specs.Prelude.{is_some}
use Rattle.command_words.specs.CommandTable.{number_in, source_range}
use Rattle.command_words.specs.Judging.{positionals_from}
use Rattle.command_words.proofs.PositionalSteps.{begins_with_source}
use Rattle.command_words.proofs.positionals.source_numbers.Goals as goal

pub source_number-requires : goal.source_number-requires
source_number-requires c =
    let ps = positionals_from c.args.command c.args.words.now in
    let at = c.next_positional-place.result in
    let begins = begins_with_source (ps c.loop.at) (get_or c.args.words.now at []) (ps (at + 1)) c.next_positional-place.ensures.next c.loop.invariant.sources in
    ap (λ w. is_some (number_in source_range w)) c.word.ensures ∙ begins.first
