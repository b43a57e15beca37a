-- The words of a field, as far as the shapes of fields tell them apart.
use Rattle.std.specs.Prelude.{◌≡◌, ℕ, ◌<◌, List, [], ◌∷◌, length}
use Rattle.program_table.specs.declared.field_words.FieldWords.{FieldWords}
use Rattle.program_table.specs.declared.field_words.FieldWords.TheVariants.{Empty, One, Two, Three, More}

-- these are the words; of more than three no shape is known
abbrev pub HasWords : FieldWords → List (List ℕ) → Type 0
HasWords Empty words = words ≡ []
HasWords (One a) words = words ≡ a.now ∷ []
HasWords (Two a b) words = words ≡ a.now ∷ b.now ∷ []
HasWords (Three a b c) words = words ≡ a.now ∷ b.now ∷ c.now ∷ []
HasWords More words = 3 < length words

-- such words, with four of no bytes in place of more than three
abbrev pub like_words : FieldWords → List (List ℕ)
like_words Empty = []
like_words (One a) = a.now ∷ []
like_words (Two a b) = a.now ∷ b.now ∷ []
like_words (Three a b c) = a.now ∷ b.now ∷ c.now ∷ []
like_words More = [] ∷ [] ∷ [] ∷ [] ∷ []
