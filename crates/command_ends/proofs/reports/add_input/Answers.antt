use Rattle.command_ends.proofs.reports.add_input.Goals as goal

pub returns-in-Missing-clause-line : goal.returns-in-Missing-clause-line
returns-in-Missing-clause-line g c = rw c.in-Missing.is c.add_numbered.ensures.line

pub returns-in-BadId-clause-line : goal.returns-in-BadId-clause-line
returns-in-BadId-clause-line g c = rw c.in-BadId.is c.add_numbered-in-BadId.ensures.line

pub returns-in-BadWeight-clause-line : goal.returns-in-BadWeight-clause-line
returns-in-BadWeight-clause-line g c = rw c.in-BadWeight.is c.add_numbered-in-BadWeight.ensures.line

pub returns-in-TooManyVertices-clause-line : goal.returns-in-TooManyVertices-clause-line
returns-in-TooManyVertices-clause-line g c = rw c.in-TooManyVertices.is (rw c.from.ensures at c.add_numbered-in-TooManyVertices.ensures.line)

pub returns-in-TooManyEdges-clause-line : goal.returns-in-TooManyEdges-clause-line
returns-in-TooManyEdges-clause-line g c = rw c.in-TooManyEdges.is c.add_numbered-in-TooManyEdges.ensures.line

pub returns-in-TooLong-clause-line : goal.returns-in-TooLong-clause-line
returns-in-TooLong-clause-line g c = rw c.in-TooLong.is c.add_line.ensures.line

pub returns-in-ReadFault-clause-line : goal.returns-in-ReadFault-clause-line
returns-in-ReadFault-clause-line g c = rw c.in-ReadFault.is c.add_line-in-ReadFault.ensures.line

pub returns-in-Memory-clause-line : goal.returns-in-Memory-clause-line
returns-in-Memory-clause-line g c = rw c.in-Memory.is c.add_line-in-Memory.ensures.line
