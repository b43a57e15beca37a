-- The table of commands: what may stand after each. A new command, option or flag is a line in each list here.
use Rattle.std.specs.Prelude.{ℕ, ◌-◌, ◌^◌, nat_lt, length, List, [], ◌∷◌, codes, if◌then◌else◌, Option, Some, None, Ok, Err}
use Rattle.px_base.specs.Text.{number_read}
use Rattle.command_words.specs.declared.numbers.NumberRange.{NumberRange}
use Rattle.command_words.specs.declared.table.CommandName.{CommandName}
use Rattle.command_words.specs.declared.table.CommandName.TheVariants.{Run, Solve, Classify, Parts, Worker}
use Rattle.command_words.specs.declared.table.OptionName.{OptionName}
use Rattle.command_words.specs.declared.table.OptionName.TheVariants.{Workers}
use Rattle.command_words.specs.declared.table.FlagName.{FlagName}
use Rattle.command_words.specs.declared.table.FlagName.TheVariants.{Unweighted}
use Rattle.command_words.specs.declared.table.Positional.{Positional}
use Rattle.command_words.specs.declared.table.Positional.TheVariants.{Program, Source}

-- ---- numbers

-- The number of the word, where it is 1 to 20 decimal digits of a number in the range. Leading zeros add nothing.
abbrev pub number_in : NumberRange → List ℕ → Option ℕ
number_in range word =
    if nat_lt 20 (length word) then None
    else elim (number_read word range.greatest) [ Ok n ↦ if nat_lt n range.least then None else Some n | Err fault ↦ None ]

-- ---- options, each with a number, and flags, without one

abbrev pub option_text : OptionName → List ℕ
option_text Workers = codes "--workers"

abbrev pub option_range : OptionName → NumberRange
option_range Workers = record { least = 1; greatest = 64 }

abbrev pub flag_text : FlagName → List ℕ
flag_text Unweighted = codes "--unweighted"

-- the numbers that a SOURCE can be
abbrev pub source_range : NumberRange
source_range = record { least = 0; greatest = 2 ^ 32 - 1 }

-- ---- commands

-- What may stand after a command: its positionals in this order, and then any number of the repeated one; its options and
-- its flags anywhere among them.
pub record CommandLine : Type 0 where
  pub name : List ℕ
  pub positionals : List Positional
  pub repeated : Option Positional
  pub options : List OptionName
  pub flags : List FlagName

abbrev pub line_of : CommandName → CommandLine
line_of Run = record { name = codes "run"; positionals = Program ∷ []; repeated = Some Source; options = Workers ∷ []; flags = [] }
line_of Solve = record { name = codes "solve"; positionals = Program ∷ []; repeated = Some Source; options = []; flags = Unweighted ∷ [] }
line_of Classify = record { name = codes "classify"; positionals = Program ∷ []; repeated = None; options = []; flags = [] }
line_of Parts = record { name = codes "parts"; positionals = Program ∷ []; repeated = None; options = Workers ∷ []; flags = Unweighted ∷ [] }
line_of Worker = record { name = codes "worker"; positionals = []; repeated = None; options = []; flags = [] }

-- all commands
abbrev pub commands : List CommandName
commands = Run ∷ Solve ∷ Classify ∷ Parts ∷ Worker ∷ []
