-- The words from some place on, an item further.
use Rattle.std.proofs.Common.{[], ◌≡◌, ℕ, ◌+◌, ◌<◌, Bool, true, List, ◌∷◌, length, drop, get_or, sym, ap, ◌∙◌, add-one, arith}
use Rattle.std.specs.Prelude.{◌==◌, Option, Some, None, is_some, if◌then◌else◌}
use Rattle.std.specs.List.{position_or_len, before_first, after_first}
use Rattle.std.proofs.Math.Seq.{drop-cons}
use Rattle.std.proofs.lemmas.List.Sums.{passes_at_first}
use Rattle.std.proofs.lemmas.List.Folds.{list_any_at}
use Rattle.px_base.specs.Values.{is_listed}
use Rattle.command_words.specs.declared.table.OptionName.{OptionName}
use Rattle.command_words.specs.CommandTable.{CommandLine}
use Rattle.command_words.specs.CommandWords.{Item, option_in, option_item, joined_item, item_alone, with_item, items_of}
use Rattle.command_words.specs.Judging.{item_length}

-- ---- a word with `=`

-- what stands before the end is listed
listed : (x : ℕ) (word : List ℕ) → position_or_len (λ b. b == x) word < length word → is_listed word x ≡ true
listed x word h = list_any_at (λ b. b == x) word (position_or_len (λ b. b == x) word) 0 h (passes_at_first (λ b. b == x) word 0 h)

-- the item of a word with a first `=`
abbrev named_before : CommandLine → List ℕ → Option OptionName → Option Item
named_before line word found = elim found [ None ↦ None | Some this ↦ option_item this (after_first (λ b. b == 61) word) ]

abbrev where_joined : CommandLine → List ℕ → Bool → Option Item
where_joined line word b = if b then named_before line word (option_in line.options (before_first (λ b. b == 61) word)) else None

pub joined : (line : CommandLine) (word name value : List ℕ) (this : OptionName) (item : Option Item) →
    position_or_len (λ b. b == 61) word < length word → name ≡ before_first (λ b. b == 61) word → value ≡ after_first (λ b. b == 61) word →
    Some this ≡ option_in line.options name → item ≡ option_item this value → item ≡ joined_item line word
joined line word name value this item inside before after found is =
    is ∙ ap (option_item this) after ∙ ap (named_before line word) (found ∙ ap (option_in line.options) before) ∙ sym (ap (where_joined line word) (listed 61 word inside))

-- ---- words by place

-- the words from a place on begin with the word there
pub cut_one : (words : List (List ℕ)) (at : ℕ) → at < length words → drop at words ≡ get_or words at [] ∷ drop (at + 1) words
cut_one words at h = rw add-one (drop-cons words at [] h)

-- ---- an item of two words

-- what stands in front of these words, where the first is the name of an option or isn't
abbrev front : CommandLine → List ℕ → List ℕ → List (List ℕ) → Option OptionName → Option (List Item)
front line word next words found = elim found [ Some this ↦ with_item (option_item this next) (items_of line words) | None ↦ with_item (item_alone line word) (items_of line (next ∷ words)) ]

abbrev two_if : Bool → ℕ
two_if b = if b then 2 else 1

take_two : (line : CommandLine) (word next : List ℕ) (words : List (List ℕ)) (this : OptionName) (item : Option Item) →
    Some this ≡ option_in line.options word → item ≡ option_item this next → items_of line (word ∷ next ∷ words) ≡ with_item item (items_of line words)
take_two line word next words this item found is = ap (front line word next words) (sym found) ∙ ap (λ i. with_item i (items_of line words)) (sym is)

pub item_of_two : (line : CommandLine) (words : List (List ℕ)) (at : ℕ) (this : OptionName) (item : Option Item) → at + 1 < length words →
    Some this ≡ option_in line.options (get_or words at []) → item ≡ option_item this (get_or words (at + 1) []) →
    items_of line (drop at words) ≡ with_item item (items_of line (drop (at + item_length line (get_or words at [])) words))
item_of_two line words at this item inside found is =
    let first : drop at words ≡ get_or words at [] ∷ drop (at + 1) words = cut_one words at (omega arith) in
    let second : drop (at + 1) words ≡ get_or words (at + 1) [] ∷ drop (at + 1 + 1) words = cut_one words (at + 1) inside in
    let long : item_length line (get_or words at []) ≡ 2 = ap (λ (o : Option OptionName). two_if (is_some o)) (sym found) in
    let place : at + item_length line (get_or words at []) ≡ at + 1 + 1 = omega arith in
    ap (items_of line) (first ∙ ap (λ ws. get_or words at [] ∷ ws) second)
    ∙ take_two line (get_or words at []) (get_or words (at + 1) []) (drop (at + 1 + 1) words) this item found is
    ∙ ap (λ k. with_item item (items_of line (drop k words))) (sym place)
