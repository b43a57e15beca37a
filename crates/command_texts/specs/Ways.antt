-- Which programs can be solved for in which way.
use Rattle.std.specs.Prelude.{◌≡◌, ◌≤◌, IsOk, Ok}
use Rattle.px_base.specs.declared.program.Program.{Program}
use Rattle.px_base.specs.declared.program.Class.TheVariants.{LocallyCorrecting}
use Rattle.px_base.specs.Classes.{class_of}
use Rattle.command_texts.specs.declared.answers_on.Way.{Way}
use Rattle.command_texts.specs.declared.answers_on.Way.TheVariants.{Rounds, Plainly}

-- rounds are for programs that correct themselves locally, and 1 to 64 workers; each program with a class is solved for plainly
abbrev pub WayFits : Way → Program → Type 0
WayFits (Rounds workers) program = (class_of program ≡ Ok LocallyCorrecting) × (1 ≤ workers) × (workers ≤ 64)
WayFits Plainly program = IsOk (class_of program)
