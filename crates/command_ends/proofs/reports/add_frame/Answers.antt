use Rattle.command_ends.proofs.reports.add_frame.Goals as goal

pub returns-in-NotAFrame-clause-line : goal.returns-in-NotAFrame-clause-line
returns-in-NotAFrame-clause-line g c = rw c.in-NotAFrame.is c.add_numbered.ensures.line

pub returns-in-Cut-clause-line : goal.returns-in-Cut-clause-line
returns-in-Cut-clause-line g c = rw c.in-Cut.is c.add_numbered-in-Cut.ensures.line

pub returns-in-Refused-clause-line : goal.returns-in-Refused-clause-line
returns-in-Refused-clause-line g c = rw c.in-Refused.is c.add_numbered-in-Refused.ensures.line
