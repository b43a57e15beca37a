-- A program row: six fields of words with `;` between them, and the first fault.
use Rattle.std.specs.Prelude.{ℕ, ◌-◌, ◌==◌, nat_lt, Bool, true, List, [], ◌∷◌, length, filter, slice_get, codes, bytes_eq, if◌then◌else◌, Option, Some, None, Result, Ok, Err}
use Rattle.px_base.specs.declared.TheConstants.{TOP}
use Rattle.px_base.specs.declared.program.Form.{Form}
use Rattle.px_base.specs.declared.program.Form.TheVariants.{Given, Back, Simple}
use Rattle.px_base.specs.declared.program.Rank.TheVariants.{ById, ByDegree}
use Rattle.px_base.specs.declared.program.Reads.{Reads}
use Rattle.px_base.specs.declared.program.Reads.TheVariants as reads_kind
use Rattle.px_base.specs.declared.program.Start.{Start}
use Rattle.px_base.specs.declared.program.Start.TheVariants.{Source, Each, OwnId}
use Rattle.px_base.specs.declared.program.Along.{Along}
use Rattle.px_base.specs.declared.program.Along.TheVariants.{Same, Plus, PlusWeight, FloorWeight, CapWeight, Minus}
use Rattle.px_base.specs.declared.program.Fold.{Fold}
use Rattle.px_base.specs.declared.program.Fold.TheVariants.{Least, Greatest, Mex, Count}
use Rattle.px_base.specs.declared.program.Own.{Own}
use Rattle.px_base.specs.declared.program.Own.TheVariants as own_kind
use Rattle.px_base.specs.declared.program.Program.{Program}
use Rattle.px_base.specs.declared.row_fault.RowFault.{RowFault}
use Rattle.px_base.specs.declared.row_fault.RowFault.TheVariants.{Missing, Unknown, Number, Trailing}
use Rattle.px_base.specs.Lines.{pieces_at, has_bytes, small_number}

-- ---- a table of shapes

-- one place of a shape: this word, or any word where a number stands
pub data Slot : Type 0 where
  word : List ℕ → Slot
  any_word : Slot

-- the word may stand in the place
abbrev pub fits_slot : Slot → List ℕ → Bool
fits_slot (word this) w = bytes_eq w this
fits_slot any_word w = true

-- the words in numbers' places, with this one where its place is a number's
abbrev pub in_number_place : Slot → List ℕ → List (List ℕ) → List (List ℕ)
in_number_place (word this) w rest = rest
in_number_place any_word w rest = w ∷ rest

-- the words that stand where the shape has numbers, if the words have the shape
abbrev pub number_words : List Slot → List (List ℕ) → Option (List (List ℕ))
number_words [] [] = Some []
number_words [] (w ∷ words) = None
number_words (slot ∷ slots) [] = None
number_words (slot ∷ slots) (w ∷ words) =
    elim (number_words slots words) [ None ↦ None | Some numbers ↦ if fits_slot slot w then Some (in_number_place slot w numbers) else None ]

-- what the words in the numbers' places make, if each writes a number
abbrev pub Maker : Type 0 → Type 0
Maker X = List (List ℕ) → Option X

-- a shape of a field, and what it makes
abbrev pub Shape : Type 0 → Type 0
Shape X = List Slot × Maker X

-- makes the same of no numbers
abbrev pub constant : {X : Type 0} → X → Maker X
constant x words = Some x

-- what the first shape that the words have makes; nothing where they have none of them
abbrev pub first_shape : {X : Type 0} → List (Shape X) → List (List ℕ) → Option (Option X)
first_shape [] words = None
first_shape ((slots, make) ∷ shapes) words = let further = first_shape shapes words in elim (number_words slots words) [ None ↦ further | Some numbers ↦ Some (make numbers) ]

-- ---- the fields' tables

-- a number below 2 ^ 32, or `inf` for TOP
abbrev pub row_value : List ℕ → Option ℕ
row_value w = if bytes_eq w (codes "inf") then Some TOP else small_number w

-- makes something of one number
abbrev pub with_one : {X : Type 0} → (ℕ → X) → (List ℕ → Option ℕ) → Maker X
with_one f read (w ∷ []) = elim (read w) [ None ↦ None | Some n ↦ Some (f n) ]
with_one f read _ = None

-- makes something of two numbers
abbrev pub with_two : {X : Type 0} → (ℕ → ℕ → X) → (List ℕ → Option ℕ) → Maker X
with_two f read (a ∷ b ∷ []) = elim (read a) [ None ↦ None | Some m ↦ elim (read b) [ None ↦ None | Some n ↦ Some (f m n) ] ]
with_two f read _ = None

-- the shapes of each of the six fields
abbrev pub form_shapes : List (Shape Form)
form_shapes = (word (codes "given") ∷ [], constant Given) ∷ (word (codes "back") ∷ [], constant Back) ∷ (word (codes "simple") ∷ [], constant Simple) ∷ []

abbrev pub reads_shapes : List (Shape Reads)
reads_shapes = (word (codes "all") ∷ [], constant reads_kind.All)
    ∷ (word (codes "earlier") ∷ word (codes "id") ∷ [], constant (reads_kind.Earlier ById))
    ∷ (word (codes "earlier") ∷ word (codes "degree") ∷ [], constant (reads_kind.Earlier ByDegree)) ∷ []

abbrev pub start_shapes : List (Shape Start)
start_shapes = (word (codes "source") ∷ any_word ∷ any_word ∷ [], with_two Source row_value)
    ∷ (word (codes "each") ∷ any_word ∷ [], with_one Each row_value)
    ∷ (word (codes "id") ∷ [], constant OwnId) ∷ []

-- `plus weight` stands before `plus N`
abbrev pub along_shapes : List (Shape Along)
along_shapes = (word (codes "same") ∷ [], constant Same)
    ∷ (word (codes "plus") ∷ word (codes "weight") ∷ [], constant PlusWeight)
    ∷ (word (codes "floor") ∷ word (codes "weight") ∷ [], constant FloorWeight)
    ∷ (word (codes "cap") ∷ word (codes "weight") ∷ [], constant CapWeight)
    ∷ (word (codes "plus") ∷ any_word ∷ [], with_one Plus small_number)
    ∷ (word (codes "minus") ∷ any_word ∷ [], with_one Minus small_number) ∷ []

abbrev pub fold_shapes : List (Shape Fold)
fold_shapes = (word (codes "least") ∷ [], constant Least) ∷ (word (codes "greatest") ∷ [], constant Greatest)
    ∷ (word (codes "mex") ∷ [], constant Mex) ∷ (word (codes "count") ∷ any_word ∷ [], with_one Count small_number) ∷ []

abbrev pub own_shapes : List (Shape Own)
own_shapes = (word (codes "keep") ∷ [], constant own_kind.Keep) ∷ (word (codes "drop") ∷ [], constant own_kind.Drop) ∷ []

-- ---- a row

-- the fields of a row
abbrev pub row_fields : List ℕ → List (List ℕ)
row_fields text = pieces_at (λ b. b == 59) text

-- the words of a field, with blanks between them
abbrev pub words_of : List ℕ → List (List ℕ)
words_of field = filter has_bytes (pieces_at (λ b. b == 32) field)

-- the words of field n, where fields count from 1; a field that isn't there has none
abbrev pub words_at : List (List ℕ) → ℕ → List (List ℕ)
words_at fields n = elim (slice_get fields (n - 1)) [ None ↦ [] | Some field ↦ words_of field ]

-- what these words of field n say; a field without words is missing
abbrev pub field_value : {X : Type 0} → ℕ → List (Shape X) → List (List ℕ) → Result X RowFault
field_value n shapes [] = Err (Missing n)
field_value n shapes (w ∷ words) = elim (first_shape shapes (w ∷ words)) [ None ↦ Err (Unknown n) | Some None ↦ Err (Number n) | Some (Some x) ↦ Ok x ]

-- what field n of the row says
abbrev pub field_at : {X : Type 0} → List (List ℕ) → ℕ → List (Shape X) → Result X RowFault
field_at fields n shapes = field_value n shapes (words_at fields n)

-- the first fault counts
abbrev pub and_then : {X Y : Type 0} → Result X RowFault → (X → Result Y RowFault) → Result Y RowFault
and_then (Ok x) next = next x
and_then (Err fault) next = Err fault

-- the program that these fields say; faults are looked for from left to right
abbrev pub row_of_fields : List (List ℕ) → Result Program RowFault
row_of_fields fields =
    and_then (field_at fields 1 form_shapes) (λ form.
    and_then (field_at fields 2 reads_shapes) (λ reads.
    and_then (field_at fields 3 start_shapes) (λ start.
    and_then (field_at fields 4 along_shapes) (λ along.
    and_then (field_at fields 5 fold_shapes) (λ fold.
    and_then (field_at fields 6 own_shapes) (λ own.
    if nat_lt 6 (length fields) then Err Trailing else Ok (record { form = form; reads = reads; start = start; along = along; fold = fold; own = own })))))))

-- the program of the row, or its first fault
abbrev pub row_read : List ℕ → Result Program RowFault
row_read text = row_of_fields (row_fields text)
