-- Numbers of a command within their ranges.
use Rattle.std.specs.Prelude.{ℕ, ◌≤◌, ⊤, IfOk, Result}
use Rattle.px_base.specs.declared.program.Program.{Program}
use Rattle.px_base.specs.RowTexts.{IsRowProgram}
use Rattle.command_words.specs.declared.command.ProgramFault.{ProgramFault}
use Rattle.command_words.specs.declared.command.Command.{Command}
use Rattle.command_words.specs.declared.command.Command.TheVariants.{Run, Solve, Classify, Parts, Worker}

abbrev pub IsWorkerCount : ℕ → Type 0
IsWorkerCount workers = (1 ≤ workers) × (workers ≤ 64)

-- the numbers of the program, where it is one, are such as a row can have
abbrev pub ProgramFits : Result Program ProgramFault → Type 0
ProgramFits named = IfOk named (λ program. IsRowProgram program)

abbrev pub CommandFits : Command → Type 0
CommandFits (Run c) = ProgramFits c.program × IsWorkerCount c.workers
CommandFits (Solve c) = ProgramFits c.program
CommandFits (Classify program) = ProgramFits program
CommandFits (Parts c) = ProgramFits c.program × IsWorkerCount c.workers
CommandFits Worker = ⊤
