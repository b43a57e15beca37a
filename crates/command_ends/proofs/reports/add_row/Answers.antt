use Rattle.command_ends.proofs.reports.add_row.Goals as goal

pub returns-in-Missing-clause-line : goal.returns-in-Missing-clause-line
returns-in-Missing-clause-line g c = rw (c.in-Missing.is, ← c.from.ensures) c.add_numbered.ensures.line

pub returns-in-Unknown-clause-line : goal.returns-in-Unknown-clause-line
returns-in-Unknown-clause-line g c = rw (c.in-Unknown.is, ← c.from-in-Unknown.ensures) c.add_numbered-in-Unknown.ensures.line

pub returns-in-Number-clause-line : goal.returns-in-Number-clause-line
returns-in-Number-clause-line g c = rw (c.in-Number.is, ← c.from-in-Number.ensures) c.add_numbered-in-Number.ensures.line

pub returns-in-Trailing-clause-line : goal.returns-in-Trailing-clause-line
returns-in-Trailing-clause-line g c = rw c.in-Trailing.is c.add_line.ensures.line
