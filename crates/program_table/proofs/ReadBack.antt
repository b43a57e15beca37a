-- A canonical row says its program.
use Rattle.std.proofs.Common.{◌≡◌, ℕ, ◌-◌, ◌^◌, ◌<◌, true, false, List, [], ◌∷◌, ◌++◌, length, refl, sym, ap, ◌∙◌, arith, inl, inr, append_assoc, rules}
use Rattle.std.specs.Prelude.{◌==◌, nat_lt, codes, bytes_eq, decimal, Ok, Some}
use Rattle.std.specs.Char.{is_ascii_digit}
use Rattle.std.specs.List.{list_any}
use Rattle.std.specs.Str.{all_ascii_digits}
use Rattle.std.specs.Str.Parse.{digits_value}
use Rattle.std.proofs.lemmas.Bool.{and_parts, cases_Bool, eqb-true, ne_eqb, le-ltb}
use Rattle.std.proofs.lemmas.List.Folds.{list_any-append}
use Rattle.std.proofs.lemmas.Str.Parse.{IsNumeralModel, numerals_by_value, tells_all_ascii_digits}
use Rattle.std.proofs.lemmas.Fmt.{digits_decimal, digits_value-decimal, decimal_nonempty}
use Rattle.px_base.specs.declared.TheConstants.{TOP}
use Rattle.px_base.specs.declared.program.Form.{Form}
use Rattle.px_base.specs.declared.program.Form.TheVariants.{Given, Back, Simple}
use Rattle.px_base.specs.declared.program.Rank.TheVariants.{ById, ByDegree}
use Rattle.px_base.specs.declared.program.Reads.{Reads}
use Rattle.px_base.specs.declared.program.Reads.TheVariants as reads_kind
use Rattle.px_base.specs.declared.program.Start.{Start}
use Rattle.px_base.specs.declared.program.Start.TheVariants.{Source, Each, OwnId}
use Rattle.px_base.specs.declared.program.Along.{Along}
use Rattle.px_base.specs.declared.program.Along.TheVariants.{Same, Plus, PlusWeight, FloorWeight, CapWeight, Minus}
use Rattle.px_base.specs.declared.program.Fold.{Fold}
use Rattle.px_base.specs.declared.program.Fold.TheVariants.{Least, Greatest, Mex, Count}
use Rattle.px_base.specs.declared.program.Own.{Own}
use Rattle.px_base.specs.declared.program.Own.TheVariants as own_kind
use Rattle.px_base.specs.declared.program.Program.{Program}
use Rattle.px_base.specs.Lines.{has_bytes, number_below, small_number}
use Rattle.px_base.specs.Text.{digits_end, number_of, number_read, value_text}
use Rattle.px_base.specs.Rows.{row_value, words_of, row_fields, field_value, form_shapes, reads_shapes, start_shapes, along_shapes, fold_shapes, own_shapes, row_read, row_of_fields}
use Rattle.px_base.specs.RowTexts.{form_text, reads_text, start_text, along_text, fold_text, own_text, row_text, IsRowValue, IsRowStart, IsRowAlong, IsRowFold, IsRowProgram}
use Rattle.px_base.proofs.Pieces.{pieces_cut, pieces_whole}
use Rattle.program_table.proofs.RowSteps.{whole}

-- ---- digits

other_byte : (c s : ℕ) → is_ascii_digit c ≡ true → is_ascii_digit s ≡ false → (c == s) ≡ false
other_byte c s digit none = elim (cases_Bool (c == s)) [
  | inl t ↦ (let same : c ≡ s = eqb-true c s t in let no : is_ascii_digit c ≡ false = rw same none in absurd cc)
  | inr f ↦ f
]

-- a byte that is no digit doesn't stand among digits
no_other : (s : ℕ) (ds : List ℕ) → is_ascii_digit s ≡ false → all_ascii_digits ds ≡ true → list_any (λ b. b == s) ds ≡ false
no_other s [] none digits = refl
no_other s (c ∷ cs) none digits =
    let parts = and_parts (is_ascii_digit c) (all_ascii_digits cs) digits in
    let here : (c == s) ≡ false = other_byte c s parts.0 none in
    rw here (no_other s cs none parts.1)

digits_whole : (ds : List ℕ) → all_ascii_digits ds ≡ true → digits_end ds ≡ length ds
digits_whole [] digits = refl
digits_whole (c ∷ cs) digits =
    let parts = and_parts (is_ascii_digit c) (all_ascii_digits cs) digits in
    let here : is_ascii_digit c ≡ true = parts.0 in
    let more : digits_end cs ≡ length cs = digits_whole cs parts.1 in
    rw here (omega (arith, more))

-- digits are no word that begins with another byte
not_text : (s : ℕ) (text ds : List ℕ) → is_ascii_digit s ≡ false → 0 < length ds → all_ascii_digits ds ≡ true → bytes_eq ds (s ∷ text) ≡ false
not_text s text [] none some digits = absurd (omega (arith, some))
not_text s text (c ∷ cs) none some digits =
    let parts = and_parts (is_ascii_digit c) (all_ascii_digits cs) digits in
    let here : (c == s) ≡ false = other_byte c s parts.0 none in
    rw here refl

number_reads : (ds : List ℕ) (n : ℕ) → all_ascii_digits ds ≡ true → 0 < length ds → digits_value 10 ds ≡ n → n < 2 ^ 32 → small_number ds ≡ Some n
number_reads ds n digits some value small =
    let a : (length ds == 0) ≡ false = ne_eqb (length ds) 0 (λ e. omega arith) in
    let b : nat_lt (digits_end ds) (length ds) ≡ false = le-ltb (digits_end ds) (length ds) (omega (arith, digits_whole ds digits)) in
    let d : nat_lt (2 ^ 32 - 1) (number_of ds) ≡ false = le-ltb (2 ^ 32 - 1) (number_of ds) (omega (arith, value)) in
    let r : number_read ds (2 ^ 32 - 1) ≡ Ok n = rw (a, b, d, value) refl in
    rw (r, small_number, number_below) refl

own_digits : IsNumeralModel (λ ds. all_ascii_digits ds ≡ true) (digits_value 10)
own_digits = numerals_by_value (λ ds. all_ascii_digits ds ≡ true) tells_all_ascii_digits

-- ---- words

record IsWord (text : List ℕ) : Type 0 where
  some : 0 < length text
  blanks : list_any (λ b. b == 32) text ≡ false
  separators : list_any (λ b. b == 59) text ≡ false

word_of_digits : (ds : List ℕ) → 0 < length ds → all_ascii_digits ds ≡ true → IsWord ds
word_of_digits ds some digits = record { some = some; blanks = no_other 32 ds refl digits; separators = no_other 59 ds refl digits }

decimal_word : (n : ℕ) → n < 2 ^ 64 → IsWord (decimal n)
decimal_word n small = word_of_digits (decimal n) (decimal_nonempty n small) (digits_decimal own_digits n small)

decimal_reads : (n : ℕ) → n < 2 ^ 32 → small_number (decimal n) ≡ Some n
decimal_reads n small =
    let wide : n < 2 ^ 64 = omega arith in
    number_reads (decimal n) n (digits_decimal own_digits n wide) (decimal_nonempty n wide) (digits_value-decimal own_digits n wide) small

decimal_not : (s : ℕ) (text : List ℕ) (n : ℕ) → is_ascii_digit s ≡ false → n < 2 ^ 32 → bytes_eq (decimal n) (s ∷ text) ≡ false
decimal_not s text n none small =
    let wide : n < 2 ^ 64 = omega arith in
    not_text s text (decimal n) none (decimal_nonempty n wide) (digits_decimal own_digits n wide)

-- ---- values

-- what is true of a value's text
record IsValueText (x : ℕ) (text : List ℕ) : Type 0 where
  word : IsWord text
  reads : row_value text ≡ Some x

small_value : (x : ℕ) → x < 2 ^ 32 → IsValueText x (decimal x)
small_value x small =
    let plain : bytes_eq (decimal x) (codes "inf") ≡ false = decimal_not 105 (110 ∷ 102 ∷ []) x refl small in
    let number : small_number (decimal x) ≡ Some x = decimal_reads x small in
    record { word = decimal_word x (omega arith); reads = rw (plain) number }

value_reads : (x : ℕ) → IsRowValue x → IsValueText x (value_text x)
value_reads x (inl small) =
    let below : (x == TOP) ≡ false = ne_eqb x TOP (λ e. omega arith) in
    rw below (small_value x small)
value_reads x (inr top) = rw top (record { word = record { some = omega arith; blanks = refl; separators = refl }; reads = refl })

-- ---- the words of a field

has_some : (text : List ℕ) → 0 < length text → has_bytes text ≡ true
has_some text some = let e : (length text == 0) ≡ false = ne_eqb (length text) 0 (λ e. omega arith) in rw e refl

last_word : (text : List ℕ) → IsWord text → words_of text ≡ text ∷ []
last_word text w = rw (pieces_whole (λ b. b == 32) text w.blanks, has_some text w.some) refl

word_before : (text rest : List ℕ) → IsWord text → words_of (text ++ 32 ∷ rest) ≡ text ∷ words_of rest
word_before text rest w = rw (pieces_cut (λ b. b == 32) text rest 32 w.blanks refl, has_some text w.some) refl

two_values : (a b : List ℕ) → IsWord a → IsWord b → words_of (a ++ codes " " ++ b) ≡ a ∷ b ∷ []
two_values a b wa wb = ap words_of (append_assoc a (32 ∷ []) b) ∙ word_before a b wa ∙ ap (λ ws. a ∷ ws) (last_word b wb)

-- ---- what fields say

form_reads : (form : Form) → field_value 1 form_shapes (words_of (form_text form)) ≡ Ok form
form_reads Given = refl
form_reads Back = refl
form_reads Simple = refl

reads_reads : (reads : Reads) → field_value 2 reads_shapes (words_of (reads_text reads)) ≡ Ok reads
reads_reads reads_kind.All = refl
reads_reads (reads_kind.Earlier ById) = refl
reads_reads (reads_kind.Earlier ByDegree) = refl

sources_said : (s t : List ℕ) (a b : ℕ) → row_value s ≡ Some a → row_value t ≡ Some b → field_value 3 start_shapes (codes "source" ∷ s ∷ t ∷ []) ≡ Ok (Source a b)
sources_said s t a b e f = rw (e, field_value) (rw (f, field_value) refl)

each_said : (s : List ℕ) (a : ℕ) → row_value s ≡ Some a → field_value 3 start_shapes (codes "each" ∷ s ∷ []) ≡ Ok (Each a)
each_said s a e = rw (e, field_value) refl

start_reads : (start : Start) → IsRowStart start → field_value 3 start_shapes (words_of (start_text start)) ≡ Ok start
start_reads (Source x y) range =
    let s : IsValueText x (value_text x) = value_reads x range.0 in
    let t : IsValueText y (value_text y) = value_reads y range.1 in
    ap (λ ws. field_value 3 start_shapes (codes "source" ∷ ws)) (two_values (value_text x) (value_text y) s.word t.word) ∙ sources_said (value_text x) (value_text y) x y s.reads t.reads
start_reads (Each x) range =
    let s : IsValueText x (value_text x) = value_reads x range in
    ap (λ ws. field_value 3 start_shapes (codes "each" ∷ ws)) (last_word (value_text x) s.word) ∙ each_said (value_text x) x s.reads
start_reads OwnId range = refl

plus_said : (s : List ℕ) (n : ℕ) → bytes_eq s (codes "weight") ≡ false → small_number s ≡ Some n → field_value 4 along_shapes (codes "plus" ∷ s ∷ []) ≡ Ok (Plus n)
plus_said s n plain e = search rules

minus_said : (s : List ℕ) (n : ℕ) → bytes_eq s (codes "weight") ≡ false → small_number s ≡ Some n → field_value 4 along_shapes (codes "minus" ∷ s ∷ []) ≡ Ok (Minus n)
minus_said s n plain e = grind arith

not_weight : (n : ℕ) → n < 2 ^ 32 → bytes_eq (decimal n) (codes "weight") ≡ false
not_weight n small = decimal_not 119 (101 ∷ 105 ∷ 103 ∷ 104 ∷ 116 ∷ []) n refl small

along_reads : (along : Along) → IsRowAlong along → field_value 4 along_shapes (words_of (along_text along)) ≡ Ok along
along_reads Same range = refl
along_reads (Plus n) range =
    ap (λ ws. field_value 4 along_shapes (codes "plus" ∷ ws)) (last_word (decimal n) (decimal_word n (omega (arith, range)))) ∙ plus_said (decimal n) n (not_weight n range) (decimal_reads n range)
along_reads PlusWeight range = refl
along_reads FloorWeight range = refl
along_reads CapWeight range = refl
along_reads (Minus n) range =
    ap (λ ws. field_value 4 along_shapes (codes "minus" ∷ ws)) (last_word (decimal n) (decimal_word n (omega (arith, range)))) ∙ minus_said (decimal n) n (not_weight n range) (decimal_reads n range)

count_said : (s : List ℕ) (n : ℕ) → small_number s ≡ Some n → field_value 5 fold_shapes (codes "count" ∷ s ∷ []) ≡ Ok (Count n)
count_said s n e = rw (e, field_value) refl

fold_reads : (fold : Fold) → IsRowFold fold → field_value 5 fold_shapes (words_of (fold_text fold)) ≡ Ok fold
fold_reads Least range = refl
fold_reads Greatest range = refl
fold_reads Mex range = refl
fold_reads (Count k) range = ap (λ ws. field_value 5 fold_shapes (codes "count" ∷ ws)) (last_word (decimal k) (decimal_word k (omega (arith, range)))) ∙ count_said (decimal k) k (decimal_reads k range)

own_reads : (own : Own) → field_value 6 own_shapes (words_of (own_text own)) ≡ Ok own
own_reads own_kind.Keep = refl
own_reads own_kind.Drop = refl

-- ---- no field has a separator

abbrev IsField : List ℕ → Type 0
IsField text = list_any (λ b. b == 59) text ≡ false

both : (s t : List ℕ) → IsField s → IsField t → IsField (s ++ t)
both s t a b = list_any-append (λ b. b == 59) s t ∙ rw (a, b) refl

form_field : (form : Form) → IsField (form_text form)
form_field Given = refl
form_field Back = refl
form_field Simple = refl

reads_field : (reads : Reads) → IsField (reads_text reads)
reads_field reads_kind.All = refl
reads_field (reads_kind.Earlier ById) = refl
reads_field (reads_kind.Earlier ByDegree) = refl

start_field : (start : Start) → IsRowStart start → IsField (start_text start)
start_field (Source x y) range =
    let s : IsValueText x (value_text x) = value_reads x range.0 in
    let t : IsValueText y (value_text y) = value_reads y range.1 in
    both (value_text x ++ codes " ") (value_text y) (both (value_text x) (codes " ") s.word.separators refl) t.word.separators
start_field (Each x) range = (value_reads x range).word.separators
start_field OwnId range = refl

along_field : (along : Along) → IsRowAlong along → IsField (along_text along)
along_field Same range = refl
along_field (Plus n) range = (decimal_word n (omega (arith, range))).separators
along_field PlusWeight range = refl
along_field FloorWeight range = refl
along_field CapWeight range = refl
along_field (Minus n) range = (decimal_word n (omega (arith, range))).separators

fold_field : (fold : Fold) → IsRowFold fold → IsField (fold_text fold)
fold_field Least range = refl
fold_field Greatest range = refl
fold_field Mex range = refl
fold_field (Count k) range = (decimal_word k (omega (arith, range))).separators

own_field : (own : Own) → IsField (own_text own)
own_field own_kind.Keep = refl
own_field own_kind.Drop = refl

-- ---- the six fields

arranged : (a b c d e f : List ℕ) →
    (a ++ codes "; " ++ b ++ codes "; " ++ c) ++ (codes "; " ++ d ++ codes "; " ++ e ++ codes "; " ++ f)
    ≡ a ++ 59 ∷ ((32 ∷ b) ++ 59 ∷ ((32 ∷ c) ++ 59 ∷ ((32 ∷ d) ++ 59 ∷ ((32 ∷ e) ++ 59 ∷ 32 ∷ f))))
arranged a b c d e f = simp append_assoc

cut : (a rest : List ℕ) (fields : List (List ℕ)) → IsField a → row_fields rest ≡ fields → row_fields (a ++ 59 ∷ rest) ≡ a ∷ fields
cut a rest fields none more = pieces_cut (λ b. b == 59) a rest 59 none refl ∙ ap (λ fs. a ∷ fs) more

six_fields : (a b c d e f : List ℕ) → IsField a → IsField b → IsField c → IsField d → IsField e → IsField f →
    row_fields (a ++ 59 ∷ ((32 ∷ b) ++ 59 ∷ ((32 ∷ c) ++ 59 ∷ ((32 ∷ d) ++ 59 ∷ ((32 ∷ e) ++ 59 ∷ 32 ∷ f))))) ≡ a ∷ (32 ∷ b) ∷ (32 ∷ c) ∷ (32 ∷ d) ∷ (32 ∷ e) ∷ (32 ∷ f) ∷ []
six_fields a b c d e f na nb nc nd ne nf =
    cut a _ _ na (cut (32 ∷ b) _ _ nb (cut (32 ∷ c) _ _ nc (cut (32 ∷ d) _ _ nd (cut (32 ∷ e) _ _ ne (pieces_whole (λ b. b == 59) (32 ∷ f) nf)))))

pub reads_back : (p : Program) → IsRowProgram p → row_read (row_text p) ≡ Ok p
reads_back p range =
    ap row_read (arranged (form_text p.form) (reads_text p.reads) (start_text p.start) (along_text p.along) (fold_text p.fold) (own_text p.own))
    ∙ ap row_of_fields (six_fields (form_text p.form) (reads_text p.reads) (start_text p.start) (along_text p.along) (fold_text p.fold) (own_text p.own)
    (form_field p.form) (reads_field p.reads) (start_field p.start range.start) (along_field p.along range.along) (fold_field p.fold range.fold) (own_field p.own))
    ∙ sym (whole (form_text p.form ∷ (32 ∷ reads_text p.reads) ∷ (32 ∷ start_text p.start) ∷ (32 ∷ along_text p.along) ∷ (32 ∷ fold_text p.fold) ∷ (32 ∷ own_text p.own) ∷ [])
    p (sym (form_reads p.form)) (sym (reads_reads p.reads)) (sym (start_reads p.start range.start)) (sym (along_reads p.along range.along))
    (sym (fold_reads p.fold range.fold)) (sym (own_reads p.own)) refl)
