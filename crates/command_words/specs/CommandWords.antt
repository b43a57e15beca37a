-- What the words of a command line ask for.
use Rattle.std.specs.Prelude.{ℕ, ◌==◌, ◌&&◌, Bool, true, false, List, [], ◌∷◌, length, map, drop, slice_index, slice_index_or, bytes_eq, if◌then◌else◌, is_some, unwrap_or, Option, Some, None, Result, Ok, Err}
use Rattle.std.specs.List.{list_any, before_first, after_first}
use Rattle.px_base.specs.declared.program.Program.{Program}
use Rattle.px_base.specs.Values.{is_listed}
use Rattle.px_base.specs.Text.{number_of}
use Rattle.px_base.specs.Rows.{row_read}
use Rattle.px_base.specs.ProgramNames.{builtin_of}
use Rattle.command_words.specs.declared.command.ProgramFault.{ProgramFault}
use Rattle.command_words.specs.declared.command.ProgramFault.TheVariants.{Unknown, BadRow}
use Rattle.command_words.specs.declared.command.Command.{Command}
use Rattle.command_words.specs.declared.command.Command.TheVariants.{Run, Solve, Classify, Parts, Worker}
use Rattle.command_words.specs.declared.table.CommandName.{CommandName}
use Rattle.command_words.specs.declared.table.CommandName.TheVariants as name
use Rattle.command_words.specs.declared.table.OptionName.{OptionName}
use Rattle.command_words.specs.declared.table.OptionName.TheVariants.{Workers}
use Rattle.command_words.specs.declared.table.FlagName.{FlagName}
use Rattle.command_words.specs.declared.table.FlagName.TheVariants.{Unweighted}
use Rattle.command_words.specs.declared.table.Positional.{Positional}
use Rattle.command_words.specs.declared.table.Positional.TheVariants as positional_kind
use Rattle.command_words.specs.CommandTable.{number_in, option_text, option_range, flag_text, source_range, CommandLine, line_of, commands}

-- ---- the items after the command's name

-- an option with its number, a flag, or a positional
pub data Item : Type 0 where
  option : OptionName → ℕ → Item
  flag : FlagName → Item
  positional : List ℕ → Item

-- the option of this name
abbrev pub option_in : List OptionName → List ℕ → Option OptionName
option_in [] text = None
option_in (this ∷ more) text = let further = option_in more text in if bytes_eq text (option_text this) then Some this else further

-- the flag of this name
abbrev pub flag_in : List FlagName → List ℕ → Option FlagName
flag_in [] text = None
flag_in (this ∷ more) text = let further = flag_in more text in if bytes_eq text (flag_text this) then Some this else further

-- the option with the number that the word writes, where that is in the option's range
abbrev pub option_item : OptionName → List ℕ → Option Item
option_item this word = elim (number_in (option_range this) word) [ None ↦ None | Some n ↦ Some (option this n) ]

-- the option whose name stands before the first `=` of the word, with the number that stands after it
abbrev pub joined_item : CommandLine → List ℕ → Option Item
joined_item line word =
    if is_listed word 61 then elim (option_in line.options (before_first (λ b. b == 61) word)) [ None ↦ None | Some this ↦ option_item this (after_first (λ b. b == 61) word) ]
    else None

-- the item that the word is by itself: a word without a byte is none, and one that begins with `-` is a flag or `--name=value`
abbrev pub item_alone : CommandLine → List ℕ → Option Item
item_alone line word =
    if length word == 0 then None
    else if slice_index word 0 == 45 then elim (flag_in line.flags word) [ Some this ↦ Some (flag this) | None ↦ joined_item line word ]
    else Some (positional word)

-- the item in front of those of the words after it; none where one of them is wrong
abbrev pub with_item : Option Item → Option (List Item) → Option (List Item)
with_item (Some item) (Some items) = Some (item ∷ items)
with_item (Some item) None = None
with_item None items = None

-- The items of these words, or none where some word is no part of an item. The name of an option takes the next word,
-- whatever that is, for its number.
abbrev pub items_of : CommandLine → List (List ℕ) → Option (List Item)
items_of line [] = Some []
items_of line (word ∷ []) = elim (option_in line.options word) [ Some this ↦ None | None ↦ with_item (item_alone line word) (Some []) ]
items_of line (word ∷ next ∷ words) =
    let after = items_of line (next ∷ words) in
    let later = items_of line words in
    elim (option_in line.options word) [ Some this ↦ with_item (option_item this next) later | None ↦ with_item (item_alone line word) after ]

-- ---- which items are right together

-- the names of the options and flags
abbrev pub names_of : List Item → List (List ℕ)
names_of [] = []
names_of (option this n ∷ items) = option_text this ∷ names_of items
names_of (flag this ∷ items) = flag_text this ∷ names_of items
names_of (positional word ∷ items) = names_of items

-- none of the names is one of these, and none stands twice
abbrev pub none_again : List (List ℕ) → List (List ℕ) → Bool
none_again before [] = true
none_again before (this ∷ more) = let further = none_again (this ∷ before) more in if list_any (λ earlier. bytes_eq earlier this) before then false else further

-- the words of the positionals
abbrev pub positionals_of : List Item → List (List ℕ)
positionals_of [] = []
positionals_of (option this n ∷ items) = positionals_of items
positionals_of (flag this ∷ items) = positionals_of items
positionals_of (positional word ∷ items) = word ∷ positionals_of items

-- the word may stand for such a positional; a PROGRAM isn't read yet
abbrev pub is_positional : Positional → List ℕ → Bool
is_positional positional_kind.Program word = true
is_positional positional_kind.Source word = is_some (number_in source_range word)

-- the words are these positionals in their order, and then any number of the repeated one
abbrev pub are_positionals : List Positional → Option Positional → List (List ℕ) → Bool
are_positionals [] repeated [] = true
are_positionals [] None (word ∷ words) = false
are_positionals [] (Some this) (word ∷ words) = is_positional this word && are_positionals [] (Some this) words
are_positionals (this ∷ more) repeated [] = false
are_positionals (this ∷ more) repeated (word ∷ words) = is_positional this word && are_positionals more repeated words

-- no option or flag stands twice, and the positionals are those of the command
abbrev pub are_right : CommandLine → List Item → Bool
are_right line items = none_again [] (names_of items) && are_positionals line.positionals line.repeated (positionals_of items)

-- ---- what right items say

-- the number of this option, if it is given
abbrev pub number_given : OptionName → List Item → Option ℕ
number_given which [] = None
number_given which (option this n ∷ items) = let further = number_given which items in if bytes_eq (option_text this) (option_text which) then Some n else further
number_given which (flag this ∷ items) = number_given which items
number_given which (positional word ∷ items) = number_given which items

-- this flag is given
abbrev pub is_given : FlagName → List Item → Bool
is_given which [] = false
is_given which (option this n ∷ items) = is_given which items
is_given which (flag this ∷ items) = let further = is_given which items in if bytes_eq (flag_text this) (flag_text which) then true else further
is_given which (positional word ∷ items) = is_given which items

-- the program that a word names: a row where it has a `;`, and else a built-in name
unfoldable pub program_of : List ℕ → Result Program ProgramFault
program_of word =
    if is_listed word 59 then elim (row_read word) [ Ok program ↦ Ok program | Err fault ↦ Err (BadRow fault) ]
    else elim (builtin_of word) [ Some program ↦ Ok program | None ↦ Err Unknown ]

-- the program that the first positional names
abbrev pub program_said : List Item → Result Program ProgramFault
program_said items = program_of (slice_index_or (positionals_of items) 0 [])

-- the numbers of the positionals after the first
abbrev pub sources_said : List Item → List ℕ
sources_said items = map number_of (drop 1 (positionals_of items))

-- the number of workers, 2 where it isn't given
abbrev pub workers_said : List Item → ℕ
workers_said items = unwrap_or (number_given Workers items) 2

-- what right items after a command's name ask for
abbrev pub command_said : CommandName → List Item → Command
command_said name.Run items = Run (record { program = program_said items; sources = sources_said items; workers = workers_said items })
command_said name.Solve items = Solve (record { program = program_said items; sources = sources_said items; unweighted = is_given Unweighted items })
command_said name.Classify items = Classify (program_said items)
command_said name.Parts items = Parts (record { program = program_said items; workers = workers_said items; unweighted = is_given Unweighted items })
command_said name.Worker items = Worker

-- ---- a command line

-- the command of this name
abbrev pub command_in : List CommandName → List ℕ → Option CommandName
command_in [] text = None
command_in (this ∷ more) text = let further = command_in more text in if bytes_eq text (line_of this).name then Some this else further

-- what these items after the command's name ask for, if they are right
abbrev pub command_with : CommandName → Option (List Item) → Option Command
command_with this None = None
command_with this (Some items) = if are_right (line_of this) items then Some (command_said this items) else None

-- What the words ask for. Words outside the table ask for nothing: none at all, another first word, a word that is no part of
-- an item, an option or flag that stands twice, other positionals than those of the command. The word of a PROGRAM may
-- be any, and is read only after that.
unfoldable pub command_of : List (List ℕ) → Option Command
command_of [] = None
command_of (first ∷ words) = elim (command_in commands first) [ None ↦ None | Some this ↦ command_with this (items_of (line_of this) words) ]
