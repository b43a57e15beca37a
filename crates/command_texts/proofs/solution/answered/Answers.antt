use Rattle.std.proofs.Common.{sym, ◌∙◌, ap}
use Rattle.px_base.specs.Starts.{first_unknown}
use Rattle.command_texts.proofs.ReadInputs.{unknown_stops}
use Rattle.command_texts.proofs.solution.answered.Goals as goal

pub returns-in-Some-clause-ends : goal.returns-in-Some-clause-ends
returns-in-Some-clause-ends g c = λ edges listed decided.
    unknown_stops c.args.program.now c.args.sources.now edges c.args.list.now c.in-Some.id listed
    (ap (λ ids. first_unknown ids c.args.sources.now) (sym c.as_slice.ensures) ∙ sym c.unknown_source.ensures ∙ c.in-Some.is)
