-- The code takes the items one by one. What it finds so is what the definition says of all of them together.
use Rattle.std.proofs.Common.{◌≡◌, ℕ, suc, zero, ◌+◌, ◌<◌, ◌≤◌, Bool, true, false, ◌&&◌, List, [], ◌∷◌, length, drop, refl, sym, ap, ◌∙◌, arith}
use Rattle.std.specs.Prelude.{nat_lt, bytes_eq, slice_get, Option, Some, None, is_some, if◌then◌else◌}
use Rattle.std.specs.List.{list_any}
use Rattle.std.proofs.Math.Bool.{and-false}
use Rattle.std.proofs.lemmas.Bool.{ltb-true, ltb-false, lt-ltb, le-ltb}
use Rattle.std.proofs.Math.Seq.{drop-cons}
use Rattle.std.proofs.lemmas.List.{drop_all}
use Rattle.command_words.specs.declared.table.Positional.{Positional}
use Rattle.command_words.specs.declared.table.Positional.TheVariants.{Program}
use Rattle.command_words.specs.declared.found.Found.{Found}
use Rattle.command_words.specs.declared.found.TheConstants.{NOTHING}
use Rattle.command_words.specs.CommandTable.{CommandLine, option_text, flag_text}
use Rattle.command_words.specs.CommandWords.{Item, option, flag, positional, with_item, names_of, none_again, positionals_of, is_positional, are_positionals, are_right}
use Rattle.command_words.proofs.Findings.{AreNamesOf, Taken, after, number_again, number_new, flag_again, flag_new, names_stay, no_names, nothing_more, a_word_more, from_start}
use Rattle.command_words.specs.Judging.{fits_place, number_found, flag_found, accept, accept_all, accepted_from, found_if_right}

-- ---- one item

abbrev accepted_then : CommandLine → Option (List Item) → Option Found → Option Found
accepted_then line rest None = None
accepted_then line rest (Some next) = accepted_from line next rest

step : (line : CommandLine) (found : Found) (item : Item) (rest : Option (List Item)) → accepted_from line found (with_item (Some item) rest) ≡ accepted_then line rest (accept line found item)
step line found item None = elim (accept line found item) as (λ a. None ≡ accepted_then line None a) [ None ↦ refl | Some next ↦ refl ]
step line found item (Some items) = elim (accept line found item) as (λ a. elim a as (λ _. Option Found) [ None ↦ None | Some next ↦ accept_all line next items ] ≡ accepted_then line (Some items) a) [ None ↦ refl | Some next ↦ refl ]

-- an item that is accepted
pub goes_on : (line : CommandLine) (found next : Found) (item : Item) (whole here rest : Option (List Item)) (start : Found) →
    accepted_from line start whole ≡ accepted_from line found here → here ≡ with_item (Some item) rest → Some next ≡ accept line found item →
    accepted_from line start whole ≡ accepted_from line next rest
goes_on line found next item whole here rest start so_far here_is taken =
    so_far ∙ ap (accepted_from line found) here_is ∙ step line found item rest ∙ ap (accepted_then line rest) (sym taken)

-- an item that is not
pub refuses : (line : CommandLine) (found : Found) (item : Item) (whole here rest : Option (List Item)) (start : Found) →
    accepted_from line start whole ≡ accepted_from line found here → here ≡ with_item (Some item) rest → None ≡ accept line found item →
    None ≡ accepted_from line start whole
refuses line found item whole here rest start so_far here_is taken =
    sym (so_far ∙ ap (accepted_from line found) here_is ∙ step line found item rest ∙ ap (accepted_then line rest) (sym taken))

-- a word that is no item
pub stops : (line : CommandLine) (found : Found) (whole here : Option (List Item)) (start : Found) →
    accepted_from line start whole ≡ accepted_from line found here → here ≡ None → None ≡ accepted_from line start whole
stops line found whole here start so_far here_is = sym (so_far ∙ ap (accepted_from line found) here_is)

-- ---- positionals

abbrev fits : List Positional → Option Positional → ℕ → List ℕ → Bool
fits kinds repeated place word = elim (elim (slice_get kinds place) as (λ _. Option Positional) [ Some this ↦ Some this | None ↦ repeated ]) [ Some this ↦ is_positional this word | None ↦ false ]

-- one positional more
one_more : (kinds : List Positional) (repeated : Option Positional) (place : ℕ) (word : List ℕ) (words : List (List ℕ)) →
    are_positionals (drop place kinds) repeated (word ∷ words) ≡ (fits kinds repeated place word && are_positionals (drop (suc place) kinds) repeated words)
one_more [] None place word words = (let gone : drop {A = Positional} place [] ≡ [] = drop_all place [] (omega arith) in rw gone refl)
one_more [] (Some this) place word words =
    let gone : drop {A = Positional} place [] ≡ [] = drop_all place [] (omega arith) in
    rw gone refl
one_more (this ∷ more) repeated zero word words = refl
one_more (this ∷ more) repeated (suc place) word words = one_more more repeated place word words

-- no positional more
none_more_false : (kinds : List Positional) (repeated : Option Positional) (place : ℕ) → place < length kinds → are_positionals (drop place kinds) repeated [] ≡ false
none_more_false kinds repeated place h = ap (λ ks. are_positionals ks repeated []) (drop-cons kinds place Program h)

none_more_true : (kinds : List Positional) (repeated : Option Positional) (place : ℕ) → length kinds ≤ place → are_positionals (drop place kinds) repeated [] ≡ true
none_more_true kinds repeated place h = ap (λ ks. are_positionals ks repeated []) (drop_all place kinds h)

-- ---- all items

-- what is found at the end, if there are enough positionals
abbrev pub finish : CommandLine → Option Found → Option Found
finish line None = None
finish line (Some found) = if nat_lt found.positionals (length line.positionals) then None else Some found

abbrev are_right_after : CommandLine → List (List ℕ) → Found → List Item → Bool
are_right_after line before found items = none_again before (names_of items) && are_positionals (drop found.positionals line.positionals) line.repeated (positionals_of items)

abbrev found_after : CommandLine → List (List ℕ) → Found → List Item → Option Found
found_after line before found items = if are_right_after line before found items then Some (after found items) else None

abbrev all_then : CommandLine → List Item → Option Found → Option Found
all_then line items None = None
all_then line items (Some next) = accept_all line next items

-- an option or a flag in front of the other items
named_item : (line : CommandLine) (before : List (List ℕ)) (found : Found) (item : Item) (name : List ℕ) (items : List Item) (seen : Bool) →
    names_of (item ∷ items) ≡ name ∷ names_of items → positionals_of (item ∷ items) ≡ positionals_of items →
    list_any (λ earlier. bytes_eq earlier name) before ≡ seen →
    (seen ≡ true → accept line found item ≡ None) → (seen ≡ false → Taken before found (accept line found item) item name) →
    ((next : Found) → AreNamesOf (name ∷ before) next → finish line (accept_all line next items) ≡ found_after line (name ∷ before) next items) →
    finish line (accept_all line found (item ∷ items)) ≡ found_after line before found (item ∷ items)
named_item line before found item name items seen names same listed again new others =
    ap (finish line) (unfolds (accept line found item)) ∙ elim seen as (λ t. seen ≡ t → finish line (all_then line items (accept line found item)) ≡ found_after line before found (item ∷ items)) [ true ↦ twice | false ↦ once ] refl
  where
    unfolds : (a : Option Found) → elim a as (λ _. Option Found) [ None ↦ None | Some next ↦ accept_all line next items ] ≡ all_then line items a
    unfolds None = refl
    unfolds (Some next) = refl

    places : ℕ → List (List ℕ) → Bool
    places k words = are_positionals (drop k line.positionals) line.repeated words

    whole : Bool → Option Found
    whole right = if right then Some (after found (item ∷ items)) else None

    by_listed : found_after line before found (item ∷ items) ≡ whole ((if seen then false else none_again (name ∷ before) (names_of items)) && are_positionals (drop found.positionals line.positionals) line.repeated (positionals_of items))
    by_listed =
        ap (λ ns. whole (none_again before ns && are_positionals (drop found.positionals line.positionals) line.repeated (positionals_of (item ∷ items)))) names
        ∙ ap (λ ps. whole (none_again before (name ∷ names_of items) && are_positionals (drop found.positionals line.positionals) line.repeated ps)) same
        ∙ ap (λ b. whole ((if b then false else none_again (name ∷ before) (names_of items)) && are_positionals (drop found.positionals line.positionals) line.repeated (positionals_of items))) listed

    twice : seen ≡ true → finish line (all_then line items (accept line found item)) ≡ found_after line before found (item ∷ items)
    twice e = ap (λ a. finish line (all_then line items a)) (again e)
        ∙ sym (by_listed ∙ ap (λ b. whole ((if b then false else none_again (name ∷ before) (names_of items)) && are_positionals (drop found.positionals line.positionals) line.repeated (positionals_of items))) e)

    once : seen ≡ false → finish line (all_then line items (accept line found item)) ≡ found_after line before found (item ∷ items)
    once e =
        let taken : Taken before found (accept line found item) item name = new e in
        ap (λ a. finish line (all_then line items a)) taken.is
        ∙ others taken.next taken.names
        ∙ ap (λ k. if none_again (name ∷ before) (names_of items) && are_positionals (drop k line.positionals) line.repeated (positionals_of items) then Some (after taken.next items) else None) taken.same
        ∙ ap (λ f. if none_again (name ∷ before) (names_of items) && are_positionals (drop found.positionals line.positionals) line.repeated (positionals_of items) then Some f else None) (taken.given items)
        ∙ sym (by_listed ∙ ap (λ b. whole ((if b then false else none_again (name ∷ before) (names_of items)) && are_positionals (drop found.positionals line.positionals) line.repeated (positionals_of items))) e)

-- a positional in front of the other items
positional_item : (line : CommandLine) (before : List (List ℕ)) (found : Found) (word : List ℕ) (items : List Item) →
    finish line (accept_all line (record found { positionals = found.positionals + 1 }) items) ≡ found_after line before (record found { positionals = found.positionals + 1 }) items →
    (t : Bool) → fits_place line found.positionals word ≡ t → finish line (accept_all line found (positional word ∷ items)) ≡ found_after line before found (positional word ∷ items)
positional_item line before found word items others t e = ap (finish line) (unfolds (accept line found (positional word))) ∙ by_test t e
  where
    next : Found
    next = record found { positionals = found.positionals + 1 }

    unfolds : (a : Option Found) → elim a as (λ _. Option Found) [ None ↦ None | Some f ↦ accept_all line f items ] ≡ all_then line items a
    unfolds None = refl
    unfolds (Some f) = refl

    right : Bool → Found → Option Found
    right places f = if none_again before (names_of items) && places then Some f else None

    places : Bool
    places = are_positionals (drop (suc found.positionals) line.positionals) line.repeated (positionals_of items)

    by_places : found_after line before found (positional word ∷ items) ≡ right (fits_place line found.positionals word && places) (after found (positional word ∷ items))
    by_places = ap (λ b. right b (after found (positional word ∷ items))) (one_more line.positionals line.repeated found.positionals word (positionals_of items))

    by_test : (t : Bool) → fits_place line found.positionals word ≡ t → finish line (all_then line items (accept line found (positional word))) ≡ found_after line before found (positional word ∷ items)
    by_test true e =
        let place : found.positionals + 1 ≡ suc found.positionals = omega arith in
        ap (λ b. finish line (all_then line items (if b then Some next else None))) e
        ∙ others
        ∙ ap (λ k. right (are_positionals (drop k line.positionals) line.repeated (positionals_of items)) (after next items)) place
        ∙ ap (λ f. right places f) (a_word_more found word items)
        ∙ sym (by_places ∙ ap (λ b. right (b && places) (after found (positional word ∷ items))) e)
    by_test false e =
        ap (λ b. finish line (all_then line items (if b then Some next else None))) e
        ∙ sym (by_places ∙ ap (λ b. right (b && places) (after found (positional word ∷ items))) e
        ∙ ap (λ b. if b then Some (after found (positional word ∷ items)) else None) (and-false (none_again before (names_of items))))

pub all_items : (line : CommandLine) (before : List (List ℕ)) (found : Found) (items : List Item) → AreNamesOf before found →
    finish line (accept_all line found items) ≡ found_after line before found items
all_items line before found [] agree = by_test (nat_lt found.positionals (length line.positionals)) refl
  where
    by_test : (t : Bool) → nat_lt found.positionals (length line.positionals) ≡ t → finish line (Some found) ≡ found_after line before found []
    by_test true e = ap (λ b. if b then None else Some found) e
        ∙ sym (ap (λ b. if b then Some (after found []) else None) (none_more_false line.positionals line.repeated found.positionals (ltb-true found.positionals (length line.positionals) e)))
    by_test false e = ap (λ b. if b then None else Some found) e ∙ sym (ap Some (nothing_more found))
        ∙ sym (ap (λ b. if b then Some (after found []) else None) (none_more_true line.positionals line.repeated found.positionals (ltb-false found.positionals (length line.positionals) e)))
all_items line before found (option o n ∷ items) agree =
    named_item line before found (option o n) (option_text o) items (is_some (number_found found o)) refl refl (agree.numbers o) (number_again found o n) (number_new before found o n agree)
    (λ next names. all_items line (option_text o ∷ before) next items names)
all_items line before found (flag f ∷ items) agree =
    named_item line before found (flag f) (flag_text f) items (flag_found found f) refl refl (agree.flags f) (flag_again found f) (flag_new before found f agree)
    (λ next names. all_items line (flag_text f ∷ before) next items names)
all_items line before found (positional word ∷ items) agree =
    positional_item line before found word items (all_items line before (record found { positionals = found.positionals + 1 }) items (names_stay before found (found.positionals + 1) agree)) (fits_place line found.positionals word) refl

-- ---- from the start

all_from_start : (line : CommandLine) (items : Option (List Item)) → finish line (accepted_from line NOTHING items) ≡ found_if_right line items
all_from_start line None = refl
all_from_start line (Some items) = all_items line [] NOTHING items no_names ∙ ap (λ f. if are_right line items then Some f else None) (from_start items)

pub refused : (line : CommandLine) (items : Option (List Item)) → None ≡ accepted_from line NOTHING items → None ≡ found_if_right line items
refused line items e = ap (finish line) e ∙ all_from_start line items

pub too_few : (line : CommandLine) (items : Option (List Item)) (found : Found) → Some found ≡ accepted_from line NOTHING items → found.positionals < length line.positionals →
    None ≡ found_if_right line items
too_few line items found e few =
    sym (ap (λ b. if b then None else Some found) (lt-ltb found.positionals (length line.positionals) few)) ∙ ap (finish line) e ∙ all_from_start line items

pub enough : (line : CommandLine) (items : Option (List Item)) (found : Found) → Some found ≡ accepted_from line NOTHING items → length line.positionals ≤ found.positionals →
    Some found ≡ found_if_right line items
enough line items found e many =
    sym (ap (λ b. if b then None else Some found) (le-ltb found.positionals (length line.positionals) many)) ∙ ap (finish line) e ∙ all_from_start line items
