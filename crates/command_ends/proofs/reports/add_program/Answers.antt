use Rattle.command_ends.proofs.reports.add_program.Goals as goal

pub returns-in-Unknown-clause-line : goal.returns-in-Unknown-clause-line
returns-in-Unknown-clause-line g c = rw c.in-Unknown.is c.add_line.ensures.line

pub returns-in-BadRow-clause-line : goal.returns-in-BadRow-clause-line
returns-in-BadRow-clause-line g c = rw c.in-BadRow.is c.add_row.ensures.line
