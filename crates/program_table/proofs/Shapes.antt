-- What the words of a field say, by how many there are.
use Rattle.std.proofs.Common.{◌≡◌, ℕ, ◌<◌, List, [], ◌∷◌, length, refl, sym, ap, ◌∙◌, arith}
use Rattle.std.specs.Prelude.{Err, slice_get, Some, None}
use Rattle.px_base.specs.declared.row_fault.RowFault.TheVariants.{Unknown}
use Rattle.px_base.specs.Rows.{Shape, field_value, form_shapes, reads_shapes, start_shapes, along_shapes, fold_shapes, own_shapes}
use Rattle.program_table.specs.declared.field_words.FieldWords.{FieldWords}
use Rattle.program_table.specs.declared.field_words.FieldWords.TheVariants.{Empty, One, Two, Three, More}
use Rattle.program_table.specs.FieldWords.{HasWords, like_words}

-- ---- words by place

pub no_words : (ws : List (List ℕ)) → None ≡ slice_get ws 0 → ws ≡ []
no_words [] e = refl
no_words (a ∷ ws) e = cc

pub one_word : (ws : List (List ℕ)) (a : List ℕ) → Some a ≡ slice_get ws 0 → None ≡ slice_get ws 1 → ws ≡ a ∷ []
one_word [] a e f = cc
one_word (b ∷ []) a e f = cc
one_word (b ∷ c ∷ ws) a e f = cc

pub two_words : (ws : List (List ℕ)) (a b : List ℕ) → Some a ≡ slice_get ws 0 → Some b ≡ slice_get ws 1 → None ≡ slice_get ws 2 → ws ≡ a ∷ b ∷ []
two_words [] a b e f g = cc
two_words (c ∷ []) a b e f g = cc
two_words (c ∷ d ∷ []) a b e f g = cc
two_words (c ∷ d ∷ x ∷ ws) a b e f g = cc

pub three_words : (ws : List (List ℕ)) (a b c : List ℕ) → Some a ≡ slice_get ws 0 → Some b ≡ slice_get ws 1 → Some c ≡ slice_get ws 2 → None ≡ slice_get ws 3 → ws ≡ a ∷ b ∷ c ∷ []
three_words [] a b c e f g h = cc
three_words (x ∷ []) a b c e f g h = cc
three_words (x ∷ y ∷ []) a b c e f g h = cc
three_words (x ∷ y ∷ z ∷ []) a b c e f g h = cc
three_words (x ∷ y ∷ z ∷ w ∷ ws) a b c e f g h = cc

pub more_words : (ws : List (List ℕ)) (d : List ℕ) → Some d ≡ slice_get ws 3 → 3 < length ws
more_words [] d e = cc
more_words (x ∷ []) d e = cc
more_words (x ∷ y ∷ []) d e = cc
more_words (x ∷ y ∷ z ∷ []) d e = cc
more_words (x ∷ y ∷ z ∷ w ∷ ws) d e = omega arith

-- ---- more than three words

record FourWords (ws : List (List ℕ)) : Type 0 where
  first : List ℕ
  second : List ℕ
  third : List ℕ
  fourth : List ℕ
  more : List (List ℕ)
  is : ws ≡ first ∷ second ∷ third ∷ fourth ∷ more

four_words : (ws : List (List ℕ)) → 3 < length ws → FourWords ws
four_words [] h = absurd (omega (arith, h))
four_words (a ∷ []) h = absurd (omega (arith, h))
four_words (a ∷ b ∷ []) h = absurd (omega (arith, h))
four_words (a ∷ b ∷ c ∷ []) h = absurd (omega (arith, h))
four_words (a ∷ b ∷ c ∷ d ∷ ws) h = record { first = a; second = b; third = c; fourth = d; more = ws; is = refl }

-- four words or more have no shape
abbrev NoneOfFour : {X : Type 0} → ℕ → List (Shape X) → Type 0
NoneOfFour n shapes = (a b c d : List ℕ) (more : List (List ℕ)) → field_value n shapes (a ∷ b ∷ c ∷ d ∷ more) ≡ Err (Unknown n)

said_like : {X : Type 0} (n : ℕ) (shapes : List (Shape X)) → NoneOfFour n shapes → (words : FieldWords) (ws : List (List ℕ)) → HasWords words ws →
    field_value n shapes (like_words words) ≡ field_value n shapes ws
said_like n shapes none Empty ws h = ap (field_value n shapes) (sym h)
said_like n shapes none (One a) ws h = ap (field_value n shapes) (sym h)
said_like n shapes none (Two a b) ws h = ap (field_value n shapes) (sym h)
said_like n shapes none (Three a b c) ws h = ap (field_value n shapes) (sym h)
said_like n shapes none More ws h =
    let four : FourWords ws = four_words ws h in
    none [] [] [] [] [] ∙ sym (ap (field_value n shapes) four.is ∙ none four.first four.second four.third four.fourth four.more)

pub form_like : (words : FieldWords) (ws : List (List ℕ)) → HasWords words ws → field_value 1 form_shapes (like_words words) ≡ field_value 1 form_shapes ws
form_like words ws h = said_like 1 form_shapes (λ a b c d more. refl) words ws h

pub reads_like : (words : FieldWords) (ws : List (List ℕ)) → HasWords words ws → field_value 2 reads_shapes (like_words words) ≡ field_value 2 reads_shapes ws
reads_like words ws h = said_like 2 reads_shapes (λ a b c d more. refl) words ws h

pub start_like : (words : FieldWords) (ws : List (List ℕ)) → HasWords words ws → field_value 3 start_shapes (like_words words) ≡ field_value 3 start_shapes ws
start_like words ws h = said_like 3 start_shapes (λ a b c d more. refl) words ws h

pub along_like : (words : FieldWords) (ws : List (List ℕ)) → HasWords words ws → field_value 4 along_shapes (like_words words) ≡ field_value 4 along_shapes ws
along_like words ws h = said_like 4 along_shapes (λ a b c d more. refl) words ws h

pub fold_like : (words : FieldWords) (ws : List (List ℕ)) → HasWords words ws → field_value 5 fold_shapes (like_words words) ≡ field_value 5 fold_shapes ws
fold_like words ws h = said_like 5 fold_shapes (λ a b c d more. refl) words ws h

pub own_like : (words : FieldWords) (ws : List (List ℕ)) → HasWords words ws → field_value 6 own_shapes (like_words words) ≡ field_value 6 own_shapes ws
own_like words ws h = said_like 6 own_shapes (λ a b c d more. refl) words ws h
