use Rattle.command_ends.proofs.reports.report.Goals as goal

pub returns-in-BadWords-clause-line : goal.returns-in-BadWords-clause-line
returns-in-BadWords-clause-line g c = rw c.in-BadWords.is c.add_line.ensures.line

pub returns-in-NeedsSource-clause-line : goal.returns-in-NeedsSource-clause-line
returns-in-NeedsSource-clause-line g c = rw c.in-NeedsSource.is c.add_line-in-NeedsSource.ensures.line

pub returns-in-TakesNoSource-clause-line : goal.returns-in-TakesNoSource-clause-line
returns-in-TakesNoSource-clause-line g c = rw c.in-TakesNoSource.is c.add_line-in-TakesNoSource.ensures.line

pub returns-in-Program-clause-line : goal.returns-in-Program-clause-line
returns-in-Program-clause-line g c = rw c.in-Program.is c.add_program.ensures.line

pub returns-in-Refused-clause-line : goal.returns-in-Refused-clause-line
returns-in-Refused-clause-line g c = rw c.in-Refused.is c.add_refused.ensures.line

pub returns-in-ClassNotBuilt-clause-line : goal.returns-in-ClassNotBuilt-clause-line
returns-in-ClassNotBuilt-clause-line g c = rw c.in-ClassNotBuilt.is c.add_line-in-ClassNotBuilt.ensures.line

pub returns-in-Input-clause-line : goal.returns-in-Input-clause-line
returns-in-Input-clause-line g c = rw c.in-Input.is c.add_input.ensures.line

pub returns-in-UnknownSource-clause-line : goal.returns-in-UnknownSource-clause-line
returns-in-UnknownSource-clause-line g c = rw c.in-UnknownSource.is c.add_numbered.ensures.line

pub returns-in-Frame-clause-line : goal.returns-in-Frame-clause-line
returns-in-Frame-clause-line g c = rw c.in-Frame.is c.add_frame.ensures.line

pub returns-in-TooManyFrameBytes-clause-line : goal.returns-in-TooManyFrameBytes-clause-line
returns-in-TooManyFrameBytes-clause-line g c = rw c.in-TooManyFrameBytes.is c.add_line-in-TooManyFrameBytes.ensures.line

pub returns-in-WriteFault-clause-line : goal.returns-in-WriteFault-clause-line
returns-in-WriteFault-clause-line g c = rw c.in-WriteFault.is c.add_line-in-WriteFault.ensures.line

pub returns-in-Memory-clause-line : goal.returns-in-Memory-clause-line
returns-in-Memory-clause-line g c = rw c.in-Memory.is c.add_line-in-Memory.ensures.line
