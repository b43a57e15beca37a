-- The positionals of words that are right, an item further.
use Rattle.std.proofs.Common.{[], ◌≡◌, ℕ, Bool, true, false, ◌&&◌, List, ◌∷◌, length, refl, sym, ap, ◌∙◌, arith}
use Rattle.std.specs.Prelude.{Option, Some, None, IsSome, is_some, unwrap_or}
use Rattle.std.specs.Option.{option_map}
use Rattle.command_words.specs.declared.items.Kind.{Kind}
use Rattle.command_words.specs.declared.items.Kind.TheVariants as kind
use Rattle.command_words.specs.CommandTable.{number_in, source_range}
use Rattle.command_words.specs.CommandWords.{Item, with_item, positionals_of}
use Rattle.command_words.specs.Judging.{item_with, is_positional_kind, are_sources}

-- the items of words that are items; none of others
abbrev items_in : Option (List Item) → List Item
items_in items = unwrap_or items []

-- what an item leaves: the words after it are items, and they have these positionals
pub record Leaves (whole rest : Option (List Item)) (before : List (List ℕ) → List (List ℕ)) : Type 0 where
  pub items : IsSome rest
  pub positionals : positionals_of (items_in whole) ≡ before (positionals_of (items_in rest))

a_positional : (word : List ℕ) (found : Option Kind) (rest : Option (List Item)) → is_positional_kind found ≡ true → IsSome (with_item (option_map (item_with word) found) rest) →
    Leaves (with_item (option_map (item_with word) found) rest) rest (λ words. word ∷ words)
a_positional word (Some (kind.Option this n)) rest e h = cc
a_positional word (Some (kind.Flag this)) rest e h = cc
a_positional word (Some kind.Positional) None e h = cc
a_positional word (Some kind.Positional) (Some items) e h = record { items = refl; positionals = refl }
a_positional word None rest e h = cc

no_positional : (word : List ℕ) (found : Option Kind) (rest : Option (List Item)) → is_positional_kind found ≡ false → IsSome (with_item (option_map (item_with word) found) rest) →
    Leaves (with_item (option_map (item_with word) found) rest) rest (λ words. words)
no_positional word (Some (kind.Option this n)) None e h = cc
no_positional word (Some (kind.Option this n)) (Some items) e h = record { items = refl; positionals = refl }
no_positional word (Some (kind.Flag this)) None e h = cc
no_positional word (Some (kind.Flag this)) (Some items) e h = record { items = refl; positionals = refl }
no_positional word (Some kind.Positional) rest e h = cc
no_positional word None rest e h = cc

-- the same for what is equal to these
pub leaves_word : (word : List ℕ) (found : Option Kind) (whole rest : Option (List Item)) → whole ≡ with_item (option_map (item_with word) found) rest →
    is_positional_kind found ≡ true → IsSome whole → Leaves whole rest (λ words. word ∷ words)
leaves_word word found whole rest is e h =
    let left : Leaves (with_item (option_map (item_with word) found) rest) rest (λ words. word ∷ words) = a_positional word found rest e (rw is at h) in
    record { items = left.items; positionals = ap (λ w. positionals_of (items_in w)) is ∙ left.positionals }

pub leaves_none : (word : List ℕ) (found : Option Kind) (whole rest : Option (List Item)) → whole ≡ with_item (option_map (item_with word) found) rest →
    is_positional_kind found ≡ false → IsSome whole → Leaves whole rest (λ words. words)
leaves_none word found whole rest is e h =
    let left : Leaves (with_item (option_map (item_with word) found) rest) rest (λ words. words) = no_positional word found rest e (rw is at h) in
    record { items = left.items; positionals = ap (λ w. positionals_of (items_in w)) is ∙ left.positionals }

-- ---- sources

-- words that begin with a source, and are sources
pub record BeginsWithSource (word : List ℕ) (words : List (List ℕ)) : Type 0 where
  pub first : is_some (number_in source_range word) ≡ true
  pub others : are_sources words ≡ true

both : (a b : Bool) → (a && b) ≡ true → (a ≡ true) × (b ≡ true)
both true true e = (refl, refl)
both true false e = cc
both false b e = cc

pub begins_with_source : (all : List (List ℕ)) (word : List ℕ) (words : List (List ℕ)) → all ≡ word ∷ words → are_sources all ≡ true → BeginsWithSource word words
begins_with_source all word words is h =
    let parts = both (is_some (number_in source_range word)) (are_sources words) (sym (ap are_sources is) ∙ h) in
    record { first = parts.0; others = parts.1 }

pub none_left : (words : List (List ℕ)) → length words ≡ 0 → words ≡ []
none_left [] e = refl
none_left (word ∷ words) e = absurd (omega (arith, e))
