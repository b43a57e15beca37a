use Rattle.command_texts.specs.Solutions.{with_text}
use Rattle.command_texts.proofs.Solved.{input_stops, list_ends}
use Rattle.command_texts.proofs.solution.text_of_input.Goals as goal

pub returns-in-Ok-clause-solution : goal.returns-in-Ok-clause-solution
returns-in-Ok-clause-solution g c =
    list_ends c.args.job.now (g.S.Source.left c.args.source.now) (g.S.Source.left c.read_edges.new.source) c.in-Ok.list (with_text c.text_of.result) c.requires.reads
    (rw c.reads_weights.ensures at c.in-Ok.ensures.read) c.text_of.ensures.ends c.text_of.ensures.own

pub returns-in-Err-clause-solution : goal.returns-in-Err-clause-solution
returns-in-Err-clause-solution g c =
    input_stops c.args.job.now (g.S.Source.left c.args.source.now) (g.S.Source.left c.read_edges.new.source) c.in-Err.fault c.requires.reads
    (rw c.reads_weights.ensures at c.in-Err.ensures.read)
