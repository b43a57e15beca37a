-- What follows for words from the fact that they are right.
use Rattle.std.proofs.Common.{◌≡◌, ℕ, ◌<◌, Bool, true, false, ◌&&◌, List, [], ◌∷◌, length, drop, get_or, refl, sym, ap, ◌∙◌, arith}
use Rattle.std.specs.Prelude.{Option, Some, None, Result, Ok, Err, OnErr, IsSome, unwrap_or, if◌then◌else◌}
use Rattle.command_words.specs.declared.table.CommandName.{CommandName}
use Rattle.command_words.specs.declared.table.Positional.{Positional}
use Rattle.command_words.specs.declared.table.Positional.TheVariants.{Program, Source}
use Rattle.command_words.specs.declared.found.Found.{Found}
use Rattle.command_words.specs.declared.command.Command.{Command}
use Rattle.command_words.specs.CommandTable.{CommandLine, line_of, commands}
use Rattle.command_words.specs.CommandWords.{Item, items_of, names_of, none_again, positionals_of, are_positionals, are_right, command_in, command_said, command_with, command_of}
use Rattle.command_words.specs.Judging.{IsFound, TakesProgram, TakesSources, are_sources, found_in, found_if_right, items_after}

-- ---- positionals

second : (a b : Bool) → (a && b) ≡ true → b ≡ true
second true b e = e
second false b e = cc

places_right : (line : CommandLine) (items : List Item) → are_right line items ≡ true → are_positionals line.positionals line.repeated (positionals_of items) ≡ true
places_right line items e = second (none_again [] (names_of items)) (are_positionals line.positionals line.repeated (positionals_of items)) e

at_least_one : (repeated : Option Positional) (words : List (List ℕ)) → are_positionals (Program ∷ []) repeated words ≡ true → 0 < length words
at_least_one repeated [] e = cc
at_least_one repeated (word ∷ words) e = omega arith

-- where the only positional is a PROGRAM, but for those that repeat
program_first : (command : CommandName) (items : List Item) → TakesProgram command → are_right (line_of command) items ≡ true →
    are_positionals (Program ∷ []) (line_of command).repeated (positionals_of items) ≡ true
program_first command items takes e = sym (ap (λ kinds. are_positionals kinds (line_of command).repeated (positionals_of items)) takes) ∙ places_right (line_of command) items e

pub has_program : (command : CommandName) (items : List Item) → TakesProgram command → are_right (line_of command) items ≡ true → 0 < length (positionals_of items)
has_program command items takes e = at_least_one (line_of command).repeated (positionals_of items) (program_first command items takes e)

after_one : (all : List (List ℕ)) (word : List ℕ) (words : List (List ℕ)) → all ≡ word ∷ words → are_positionals (Program ∷ []) (Some Source) all ≡ true → are_sources words ≡ true
after_one all word words is e = sym (ap (are_positionals (Program ∷ []) (Some Source)) is) ∙ e

-- the positionals after the PROGRAM are sources, where sources may stand
pub has_sources : (command : CommandName) (items : List Item) (word : List ℕ) (words : List (List ℕ)) → TakesProgram command → TakesSources command →
    are_right (line_of command) items ≡ true → positionals_of items ≡ word ∷ words → are_sources words ≡ true
has_sources command items word words takes sources e is =
    after_one (positionals_of items) word words is (sym (ap (λ repeated. are_positionals (Program ∷ []) repeated (positionals_of items)) sources) ∙ program_first command items takes e)

-- ---- what is found

record Parts_of (line : CommandLine) (items : Option (List Item)) (found : Found) : Type 0 where
  some : IsSome items
  right : are_right line (unwrap_or items []) ≡ true
  gives : found ≡ found_in (unwrap_or items [])

parts_by : (line : CommandLine) (items : List Item) (found : Found) (t : Bool) → are_right line items ≡ t → Some found ≡ (if t then Some (found_in items) else None) → Parts_of line (Some items) found
parts_by line items found true right e = record { some = refl; right = right; gives = cc }
parts_by line items found false right e = cc

parts_of : (line : CommandLine) (items : Option (List Item)) (found : Found) → Some found ≡ found_if_right line items → Parts_of line items found
parts_of line None found e = cc
parts_of line (Some items) found e = parts_by line items found (are_right line items) refl e

pub is_found : (command : CommandName) (words : List (List ℕ)) (found : Found) → Some found ≡ found_if_right (line_of command) (items_of (line_of command) (drop 1 words)) → IsFound command words found
is_found command words found e =
    let parts = parts_of (line_of command) (items_of (line_of command) (drop 1 words)) found e in
    record { items = parts.some; right = parts.right; gives = parts.gives }

-- ---- a command line

abbrev with_words : List (List ℕ) → Option CommandName → Option Command
with_words words None = None
with_words words (Some this) = command_with this (items_of (line_of this) (drop 1 words))

by_name : (words : List (List ℕ)) → 0 < length words → command_of words ≡ with_words words (command_in commands (get_or words 0 []))
unfolding command_of
by_name [] h = absurd (omega (arith, h))
by_name (first ∷ words) h = elim (command_in commands first) as (λ found. elim found as (λ _. Option Command) [ None ↦ None | Some this ↦ command_with this (items_of (line_of this) words) ] ≡ with_words (first ∷ words) found)
    [ None ↦ refl | Some this ↦ refl ]

pub no_words : (words : List (List ℕ)) → length words ≡ 0 → None ≡ command_of words
unfolding command_of
no_words [] e = refl
no_words (first ∷ words) e = absurd (omega (arith, e))

pub no_command : (words : List (List ℕ)) → 0 < length words → None ≡ command_in commands (get_or words 0 []) → None ≡ command_of words
no_command words h e = sym (by_name words h ∙ ap (with_words words) (sym e))

wrong_by : (this : CommandName) (items : List Item) (t : Bool) → are_right (line_of this) items ≡ t → None ≡ (if t then Some (found_in items) else None) → command_with this (Some items) ≡ None
wrong_by this items true right e = cc
wrong_by this items false right e = ap (λ b. if b then Some (command_said this items) else None) right

wrong_with : (this : CommandName) (items : Option (List Item)) → None ≡ found_if_right (line_of this) items → command_with this items ≡ None
wrong_with this None e = refl
wrong_with this (Some items) e = wrong_by this items (are_right (line_of this) items) refl e

pub wrong_words : (words : List (List ℕ)) (this : CommandName) → 0 < length words → Some this ≡ command_in commands (get_or words 0 []) →
    None ≡ found_if_right (line_of this) (items_of (line_of this) (drop 1 words)) → None ≡ command_of words
wrong_words words this h named e =
    sym (by_name words h ∙ ap (with_words words) (sym named) ∙ wrong_with this (items_of (line_of this) (drop 1 words)) e)

right_with : (this : CommandName) (items : Option (List Item)) → IsSome items → are_right (line_of this) (unwrap_or items []) ≡ true →
    command_with this items ≡ Some (command_said this (unwrap_or items []))
right_with this None some right = cc
right_with this (Some items) some right = ap (λ b. if b then Some (command_said this items) else None) right

pub right_words : (words : List (List ℕ)) (this : CommandName) (found : Found) → 0 < length words → Some this ≡ command_in commands (get_or words 0 []) →
    IsFound this words found → Some (command_said this (items_after this words)) ≡ command_of words
right_words words this found h named right =
    sym (by_name words h ∙ ap (with_words words) (sym named) ∙ right_with this (items_of (line_of this) (drop 1 words)) right.items right.right)

-- a clause on an error holds where the fact itself does
pub on_error : {T E : Type 0} {P : Type 0} (r : Result T E) → P → OnErr r P
on_error (Ok x) p = tt
on_error (Err e) p = p
