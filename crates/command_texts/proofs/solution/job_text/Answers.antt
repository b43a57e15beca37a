use Rattle.command_texts.specs.Solutions.{with_text}
use Rattle.command_texts.proofs.Solved.{class_ends}
use Rattle.command_texts.proofs.solution.job_text.Goals as goal

pub returns-in-Classify-clause-solution : goal.returns-in-Classify-clause-solution
returns-in-Classify-clause-solution g c = rw c.in-Classify.is
    (class_ends c.in-Classify.class (g.S.Source.left c.args.source.now) (with_text c.class_line.result) c.class_line.ensures.ends c.class_line.ensures.own)
