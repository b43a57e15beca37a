-- Numbers of options are within their ranges.
use Rattle.std.proofs.Common.{◌≡◌, ℕ, ◌≤◌, Bool, true, false, cond, List, [], ◌∷◌, length, refl, arith}
use Rattle.std.specs.Prelude.{◌==◌, nat_lt, slice_index, drop, unwrap_or, ⊤, Option, Some, None, Result, Ok, Err}
use Rattle.std.specs.List.{before_first, after_first}
use Rattle.std.proofs.lemmas.Bool.Decides.{nat_tests}
use Rattle.px_base.specs.declared.number.NumberFault.{NumberFault}
use Rattle.px_base.specs.Values.{is_listed}
use Rattle.px_base.specs.Text.{number_read}
use Rattle.px_base.proofs.Numbers.{read_in_range}
use Rattle.command_words.specs.declared.numbers.NumberRange.{NumberRange}
use Rattle.command_words.specs.declared.table.OptionName.{OptionName}
use Rattle.command_words.specs.declared.table.OptionName.TheVariants.{Workers}
use Rattle.command_words.specs.declared.table.FlagName.{FlagName}
use Rattle.command_words.specs.declared.table.CommandName.{CommandName}
use Rattle.command_words.specs.declared.found.Found.{Found}
use Rattle.command_words.specs.CommandTable.{number_in, option_range, CommandLine, line_of}
use Rattle.command_words.specs.CommandWords.{Item, option, flag, positional, option_in, flag_in, option_item, joined_item, item_alone, with_item, items_of, number_given}
use Rattle.command_words.specs.CommandFits.{IsWorkerCount}
use Rattle.command_words.specs.Judging.{IsFound}

abbrev IsInRange : NumberRange → ℕ → Type 0
IsInRange range n = (range.least ≤ n) × (n ≤ range.greatest)

-- ---- one number

number_in_range : (range : NumberRange) (word : List ℕ) (n : ℕ) → number_in range word ≡ Some n → IsInRange range n
number_in_range range word n is = by_length (nat_lt 20 (length word)) is
  where
    by_least : (m : ℕ) (low : Bool) → nat_lt m range.least ≡ low → m ≤ range.greatest → cond low None (Some m) ≡ Some n → IsInRange range n
    by_least m true test high is = absurd (cc)
    by_least m false test high is = let same : m ≡ n = cc in rw (← same) ((grind (arith, nat_tests)), high)

    by_number : (read : Result ℕ NumberFault) → number_read word range.greatest ≡ read → (elim read [ Ok m ↦ cond (nat_lt m range.least) None (Some m) | Err fault ↦ None ]) ≡ Some n → IsInRange range n
    by_number (Err fault) from is = absurd (cc)
    by_number (Ok m) from is = by_least m (nat_lt m range.least) refl (read_in_range word range.greatest m from) is

    by_length : (long : Bool) → cond long None (elim (number_read word range.greatest) [ Ok m ↦ cond (nat_lt m range.least) None (Some m) | Err fault ↦ None ]) ≡ Some n → IsInRange range n
    by_length true is = absurd (cc)
    by_length false is = by_number (number_read word range.greatest) refl is

-- ---- items

-- the number of an option is in its range
abbrev IsGood : Item → Type 0
IsGood (option this n) = IsInRange (option_range this) n
IsGood (flag this) = ⊤
IsGood (positional word) = ⊤

abbrev AreGood : List Item → Type 0
AreGood [] = ⊤
AreGood (item ∷ items) = IsGood item × AreGood items

abbrev IfGood : Option Item → Type 0
IfGood None = ⊤
IfGood (Some item) = IsGood item

abbrev IfAllGood : Option (List Item) → Type 0
IfAllGood None = ⊤
IfAllGood (Some items) = AreGood items

option_good : (this : OptionName) (word : List ℕ) → IfGood (option_item this word)
option_good this word = by_number (number_in (option_range this) word) refl
  where
    by_number : (found : Option ℕ) → number_in (option_range this) word ≡ found → IfGood (elim found [ None ↦ None | Some n ↦ Some (option this n) ])
    by_number None is = tt
    by_number (Some n) is = number_in_range (option_range this) word n is

joined_good : (line : CommandLine) (word : List ℕ) → IfGood (joined_item line word)
joined_good line word = by_sign (is_listed word 61)
  where
    by_name : (found : Option OptionName) → IfGood (elim found [ None ↦ None | Some this ↦ option_item this (after_first (λ b. b == 61) word) ])
    by_name None = tt
    by_name (Some this) = option_good this (after_first (λ b. b == 61) word)

    by_sign : (b : Bool) → IfGood (cond b (elim (option_in line.options (before_first (λ b. b == 61) word)) [ None ↦ None | Some this ↦ option_item this (after_first (λ b. b == 61) word) ]) None)
    by_sign true = by_name (option_in line.options (before_first (λ b. b == 61) word))
    by_sign false = tt

alone_good : (line : CommandLine) (word : List ℕ) → IfGood (item_alone line word)
alone_good line word = by_tests (length word == 0) (slice_index word 0 == 45)
  where
    by_flag : (found : Option FlagName) → IfGood (elim found [ Some this ↦ Some (flag this) | None ↦ joined_item line word ])
    by_flag (Some this) = tt
    by_flag None = joined_good line word

    by_tests : (empty dash : Bool) → IfGood (cond empty None (cond dash (elim (flag_in line.flags word) [ Some this ↦ Some (flag this) | None ↦ joined_item line word ]) (Some (positional word))))
    by_tests true dash = tt
    by_tests false true = by_flag (flag_in line.flags word)
    by_tests false false = tt

with_good : (first : Option Item) (rest : Option (List Item)) → IfGood first → IfAllGood rest → IfAllGood (with_item first rest)
with_good (Some item) (Some items) h k = (h, k)
with_good (Some item) None h k = tt
with_good None rest h k = tt

items_good : (line : CommandLine) (words : List (List ℕ)) → IfAllGood (items_of line words)
items_good line [] = tt
items_good line (word ∷ []) = by_option (option_in line.options word)
  where
    by_option : (found : Option OptionName) → IfAllGood (elim found [ Some this ↦ None | None ↦ with_item (item_alone line word) (Some []) ])
    by_option (Some this) = tt
    by_option None = with_good (item_alone line word) (Some []) (alone_good line word) tt
items_good line (word ∷ next ∷ words) = by_option (option_in line.options word) (items_good line (next ∷ words)) (items_good line words)
  where
    by_option : (found : Option OptionName) → IfAllGood (items_of line (next ∷ words)) → IfAllGood (items_of line words) →
        IfAllGood (elim found [ Some this ↦ with_item (option_item this next) (items_of line words) | None ↦ with_item (item_alone line word) (items_of line (next ∷ words)) ])
    by_option (Some this) after later = with_good (option_item this next) (items_of line words) (option_good this next) later
    by_option None after later = with_good (item_alone line word) (items_of line (next ∷ words)) (alone_good line word) after

-- ---- the workers

workers_good : (items : List Item) → AreGood items → IsWorkerCount (unwrap_or (number_given Workers items) 2)
workers_good [] h = (omega arith, omega arith)
workers_good (option Workers n ∷ items) h = h.0
workers_good (flag this ∷ items) h = workers_good items h.1
workers_good (positional word ∷ items) h = workers_good items h.1

-- the number of workers that right words give is one
pub workers_fit : (command : CommandName) (words : List (List ℕ)) (found : Found) → IsFound command words found → IsWorkerCount (unwrap_or found.workers 2)
workers_fit command words found is = rw is.gives (by_items (items_of (line_of command) (drop 1 words)) (items_good (line_of command) (drop 1 words)))
  where
    by_items : (items : Option (List Item)) → IfAllGood items → IsWorkerCount (unwrap_or (number_given Workers (unwrap_or items [])) 2)
    by_items None h = (omega arith, omega arith)
    by_items (Some items) h = workers_good items h
