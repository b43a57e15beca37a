-- How the code goes over the items: one by one, with what it has found so far.
use Rattle.std.specs.Prelude.{◌≡◌, ℕ, ◌+◌, Bool, true, false, List, [], ◌∷◌, length, drop, slice_get, if◌then◌else◌, is_some, unwrap_or, IsSome, Option, Some, None}
use Rattle.command_words.specs.declared.table.CommandName.{CommandName}
use Rattle.command_words.specs.declared.table.OptionName.{OptionName}
use Rattle.command_words.specs.declared.table.OptionName.TheVariants.{Workers}
use Rattle.command_words.specs.declared.table.FlagName.{FlagName}
use Rattle.command_words.specs.declared.table.FlagName.TheVariants.{Unweighted}
use Rattle.command_words.specs.declared.table.Positional.{Positional}
use Rattle.command_words.specs.declared.table.Positional.TheVariants as positional_kind
use Rattle.command_words.specs.declared.items.Kind.{Kind}
use Rattle.command_words.specs.declared.items.Kind.TheVariants as kind
use Rattle.command_words.specs.declared.found.Found.{Found}
use Rattle.command_words.specs.CommandTable.{CommandLine, line_of}
use Rattle.command_words.specs.CommandWords.{Item, option, flag, positional, option_in, items_of, is_positional, are_positionals, positionals_of, number_given, is_given, are_right}

-- ---- one item

-- the item of this kind whose first word this is
abbrev pub item_with : List ℕ → Kind → Item
item_with word (kind.Option this n) = option this n
item_with word (kind.Flag this) = flag this
item_with word kind.Positional = positional word

-- it is an item, and a positional
abbrev pub is_positional_kind : Option Kind → Bool
is_positional_kind (Some (kind.Option this n)) = false
is_positional_kind (Some (kind.Flag this)) = false
is_positional_kind (Some kind.Positional) = true
is_positional_kind None = false

-- how many words the item takes whose first word this is
abbrev pub item_length : CommandLine → List ℕ → ℕ
item_length line word = if is_some (option_in line.options word) then 2 else 1

-- what the positional at this place is, counted from 0
abbrev pub positional_at : CommandLine → ℕ → Option Positional
positional_at line place = elim (slice_get line.positionals place) [ Some this ↦ Some this | None ↦ line.repeated ]

-- the word may be the positional at this place
abbrev pub fits_place : CommandLine → ℕ → List ℕ → Bool
fits_place line place word = elim (positional_at line place) [ Some this ↦ is_positional this word | None ↦ false ]

-- ---- what is found

-- the number of this option, if it is found
abbrev pub number_found : Found → OptionName → Option ℕ
number_found found Workers = found.workers

-- this flag is found
abbrev pub flag_found : Found → FlagName → Bool
flag_found found Unweighted = found.unweighted

-- the same with this number for the option
abbrev pub number_put : Found → OptionName → ℕ → Found
number_put found Workers n = record found { workers = Some n }

-- the same with the flag
abbrev pub flag_put : Found → FlagName → Found
flag_put found Unweighted = record found { unweighted = true }

-- the same with the option; none where it is found already
abbrev pub with_number : Found → OptionName → ℕ → Option Found
with_number found this n = if is_some (number_found found this) then None else Some (number_put found this n)

-- the same with the flag; none where it is found already
abbrev pub with_flag : Found → FlagName → Option Found
with_flag found this = if flag_found found this then None else Some (flag_put found this)

-- the same with the item; none where it may not stand there
abbrev pub accept : CommandLine → Found → Item → Option Found
accept line found (option this n) = with_number found this n
accept line found (flag this) = with_flag found this
accept line found (positional word) = if fits_place line found.positionals word then Some (record found { positionals = found.positionals + 1 }) else None

-- the same with all these items
abbrev pub accept_all : CommandLine → Found → List Item → Option Found
accept_all line found [] = Some found
accept_all line found (item ∷ items) = elim (accept line found item) [ None ↦ None | Some next ↦ accept_all line next items ]

-- the same with all these items, where they are items
abbrev pub accepted_from : CommandLine → Found → Option (List Item) → Option Found
accepted_from line found None = None
accepted_from line found (Some items) = accept_all line found items

-- what these items give
abbrev pub found_in : List Item → Found
found_in items = record { workers = number_given Workers items; unweighted = is_given Unweighted items; positionals = length (positionals_of items) }

-- what these items give, where they are right
abbrev pub found_if_right : CommandLine → Option (List Item) → Option Found
found_if_right line None = None
found_if_right line (Some items) = if are_right line items then Some (found_in items) else None

-- ---- words that are right

-- the items of the words from this place on, if they are items
abbrev pub items_from : CommandName → List (List ℕ) → ℕ → List Item
items_from command words from = unwrap_or (items_of (line_of command) (drop from words)) []

-- the items after the command's name
abbrev pub items_after : CommandName → List (List ℕ) → List Item
items_after command words = items_from command words 1

-- the words from this place on are items
abbrev pub AreItems : CommandName → List (List ℕ) → ℕ → Type 0
AreItems command words from = IsSome (items_of (line_of command) (drop from words))

-- the positionals among the words from this place on
abbrev pub positionals_from : CommandName → List (List ℕ) → ℕ → List (List ℕ)
positionals_from command words from = positionals_of (items_from command words from)

-- all the words are sources
abbrev pub are_sources : List (List ℕ) → Bool
are_sources words = are_positionals [] (Some positional_kind.Source) words

-- the command has a PROGRAM and no other positional, but for those that repeat
abbrev pub TakesProgram : CommandName → Type 0
TakesProgram command = (line_of command).positionals ≡ positional_kind.Program ∷ []

-- the command has sources
abbrev pub TakesSources : CommandName → Type 0
TakesSources command = (line_of command).repeated ≡ Some positional_kind.Source

-- the words after the command's name are right, and give this
pub record IsFound (command : CommandName) (words : List (List ℕ)) (found : Found) : Type 0 where
  pub items : AreItems command words 1
  pub right : are_right (line_of command) (items_after command words) ≡ true
  pub gives : found ≡ found_in (items_after command words)
