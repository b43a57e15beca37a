use Rattle.command_ends.proofs.reports.add_refused.Goals as goal

pub returns-in-CountForm-clause-line : goal.returns-in-CountForm-clause-line
returns-in-CountForm-clause-line g c = rw c.in-CountForm.is c.add_line.ensures.line

pub returns-in-MexKept-clause-line : goal.returns-in-MexKept-clause-line
returns-in-MexKept-clause-line g c = rw c.in-MexKept.is c.add_line-in-MexKept.ensures.line

pub returns-in-Cyclic-clause-line : goal.returns-in-Cyclic-clause-line
returns-in-Cyclic-clause-line g c = rw c.in-Cyclic.is c.add_line-in-Cyclic.ensures.line

pub returns-in-Improves-clause-line : goal.returns-in-Improves-clause-line
returns-in-Improves-clause-line g c = rw c.in-Improves.is c.add_two_numbers.ensures.line
