use Rattle.std.proofs.Common.{◌∙◌}
use Rattle.command_ends.specs.declared.stop.Stop.TheVariants as stop
use Rattle.command_words.specs.CommandWords.{command_of}
use Rattle.command_texts.specs.Plans.{plan_of}
use Rattle.phoenix_cli.proofs.Stopped.{memory_stops, no_command, stops_as}
use Rattle.phoenix_cli.proofs.run.perform.Goals as goal

pub returns-in-Err-clause-run : goal.returns-in-Err-clause-run
returns-in-Err-clause-run g c = memory_stops (plan_of (command_of c.args.words.now)) (g.S.Source.left c.args.source.now) (g.K.Sink.written c.args.sink.now)

pub returns-in-Ok-clause-words : goal.returns-in-Ok-clause-words
returns-in-Ok-clause-words g c = λ none. stops_as c.plan.result stop.BadWords c.follow.result
    (c.plan.ensures.plan ∙ no_command c.in-Ok.command (c.in-Ok.ensures.command ∙ none)) c.follow.ensures.stopped
