-- What is known of a line at its end is what the line says.
use Rattle.std.proofs.Common.{◌≡◌, ℕ, suc, ◌-◌, Bool, true, false, not, cond, List, [], ◌∷◌, length, take, refl, sym, ap, ◌∙◌, arith}
use Rattle.std.specs.Prelude.{Option, Some, None, ◌==◌, ◌||◌, if◌then◌else◌, filter, slice_index}
use Rattle.std.specs.List.{fold}
use Rattle.std.proofs.lemmas.Bool.Decides.{nat_tests}
use Rattle.std.proofs.lemmas.Bool.{ne_eqb, eqb-true}
use Rattle.px_base.specs.declared.TheConstants.{ID_LIMIT}
use Rattle.px_base.specs.Lines.{Line, skipped, faulty, bad_id, is_blank, pieces_at, in_front, has_bytes, fields_of, number_below, weight_of, weighed_line, target_line, source_line, is_comment, without_return, line_of}
use Rattle.edge_reader.specs.declared.scan.Scan.{Scan}
use Rattle.edge_reader.specs.declared.scan.Stage.{Stage}
use Rattle.edge_reader.specs.declared.scan.Stage.TheVariants.{Start, Comment, Indent, Source, AfterSource, Target, AfterTarget, Weight, Rest, WrongId, WrongWeight}
use Rattle.edge_reader.specs.Scans.{with_digit, with_digits, line_start, in_source, in_target, in_weight, in_third, at_start, after_blank, in_field, next_in_line, next_byte, scanned, judged_at, judged}
use Rattle.edge_reader.proofs.SmallNumbers.{small_is}

-- ---- the pieces between separators

abbrev first : List (List ℕ) → List ℕ
first [] = []
first (p ∷ ps) = p

abbrev later : List (List ℕ) → List (List ℕ)
later [] = []
later (p ∷ ps) = ps

abbrev pieces : List ℕ → List (List ℕ)
pieces bytes = pieces_at is_blank bytes

abbrev fields : List (List ℕ) → List (List ℕ)
fields ps = filter has_bytes ps

front_is : (b : ℕ) (ps : List (List ℕ)) → in_front b ps ≡ (b ∷ first ps) ∷ later ps
front_is b [] = refl
front_is b (p ∷ ps) = refl

pieces_blank : (b : ℕ) (bs : List ℕ) → is_blank b ≡ true → pieces (b ∷ bs) ≡ [] ∷ pieces bs
pieces_blank b bs e = rw e refl

pieces_other : (b : ℕ) (bs : List ℕ) → is_blank b ≡ false → pieces (b ∷ bs) ≡ (b ∷ first (pieces bs)) ∷ later (pieces bs)
pieces_other b bs e = rw e (front_is b (pieces bs))

has_some : (b : ℕ) (p : List ℕ) → has_bytes (b ∷ p) ≡ true
has_some b p = ap not (ne_eqb (length (b ∷ p)) 0 (λ e. omega (arith, e)))

fields_other : (b : ℕ) (bs : List ℕ) → is_blank b ≡ false → fields (pieces (b ∷ bs)) ≡ (b ∷ first (pieces bs)) ∷ fields (later (pieces bs))
fields_other b bs e = ap fields (pieces_other b bs e) ∙ ap (λ t. cond t ((b ∷ first (pieces bs)) ∷ fields (later (pieces bs))) (fields (later (pieces bs)))) (has_some b (first (pieces bs)))

fields_blank : (b : ℕ) (bs : List ℕ) → is_blank b ≡ true → fields (pieces (b ∷ bs)) ≡ fields (pieces bs)
fields_blank b bs e = ap fields (pieces_blank b bs e)

-- ---- steps

-- what is said after these bytes
abbrev then_said : Bool → Scan → List ℕ → Line
then_said w s bytes = judged (fold (next_in_line w) s bytes)

abbrev at_stage : Stage → Scan → Scan
at_stage stage s = record s { stage = stage }

on_blank : (w : Bool) (s : Scan) (b : ℕ) (bs : List ℕ) → is_blank b ≡ true → then_said w s (b ∷ bs) ≡ then_said w (at_stage (after_blank s.stage) s) bs
on_blank w s b bs e = ap (λ t. then_said w (cond t (at_stage (after_blank s.stage) s) (in_field w s.stage s b)) bs) e

on_other : (w : Bool) (s : Scan) (b : ℕ) (bs : List ℕ) → is_blank b ≡ false → then_said w s (b ∷ bs) ≡ then_said w (in_field w s.stage s b) bs
on_other w s b bs e = ap (λ t. then_said w (cond t (at_stage (after_blank s.stage) s) (in_field w s.stage s b)) bs) e

-- a stage that no byte changes
stays_at : (w : Bool) (stage : Stage) → after_blank stage ≡ stage → ((s : Scan) (b : ℕ) → in_field w stage s b ≡ s) → (s : Scan) (b : ℕ) (bs : List ℕ) (t : Bool) → is_blank b ≡ t →
    then_said w (at_stage stage s) (b ∷ bs) ≡ then_said w (at_stage stage s) bs
stays_at w stage blank other s b bs true e = on_blank w (at_stage stage s) b bs e ∙ ap (λ st. then_said w (at_stage st s) bs) blank
stays_at w stage blank other s b bs false e = on_other w (at_stage stage s) b bs e ∙ ap (λ t. then_said w t bs) (other (at_stage stage s) b)

stays : (w : Bool) (stage : Stage) → after_blank stage ≡ stage → ((s : Scan) (b : ℕ) → in_field w stage s b ≡ s) → (s : Scan) (bs : List ℕ) → then_said w (at_stage stage s) bs ≡ judged_at stage (at_stage stage s)
stays w stage blank other s [] = refl
stays w stage blank other s (b ∷ bs) = stays_at w stage blank other s b bs (is_blank b) refl ∙ stays w stage blank other s bs

-- ---- the third field

abbrev ThirdSaid : Bool → List ℕ → Type 0
ThirdSaid w bs = (s : Scan) → then_said w (at_stage Weight s) bs ≡ weighed_line s.source s.target (with_digits s.weight (first (pieces bs)))

third_byte : (w : Bool) (s : Scan) (n b : ℕ) (bs : List ℕ) (o : Option ℕ) → with_digit n b ≡ o → ThirdSaid w bs →
    then_said w (in_weight s n b) bs ≡ weighed_line s.source s.target (with_digits n (b ∷ first (pieces bs)))
third_byte w s n b bs (Some m) e rest = rw (e, in_weight) (rest (record s { weight = m }))
third_byte w s n b bs None e rest = rw (e, in_weight) (stays w WrongWeight refl (λ t c. refl) s bs)

third_at : (w : Bool) (s : Scan) (b : ℕ) (bs : List ℕ) (t : Bool) → is_blank b ≡ t → ThirdSaid w bs →
    then_said w (at_stage Weight s) (b ∷ bs) ≡ weighed_line s.source s.target (with_digits s.weight (first (pieces (b ∷ bs))))
third_at w s b bs true e rest = on_blank w (at_stage Weight s) b bs e ∙ stays w Rest refl (λ t c. refl) s bs ∙ sym (ap (λ ps. weighed_line s.source s.target (with_digits s.weight (first ps))) (pieces_blank b bs e))
third_at w s b bs false e rest = on_other w (at_stage Weight s) b bs e ∙ third_byte w (at_stage Weight s) s.weight b bs (with_digit s.weight b) refl rest
    ∙ sym (ap (λ ps. weighed_line s.source s.target (with_digits s.weight (first ps))) (pieces_other b bs e))

third : (w : Bool) (bs : List ℕ) → ThirdSaid w bs
third w [] = λ s. refl
third w (b ∷ bs) = λ s. third_at w s b bs (is_blank b) refl (third w bs)

before_third_other : (w : Bool) (s : Scan) (b : ℕ) (bs : List ℕ) →
    then_said w (in_third w s b) bs ≡ weighed_line s.source s.target (weight_of w ((b ∷ first (pieces bs)) ∷ fields (later (pieces bs))))
before_third_other true s b bs = third_byte true s 0 b bs (with_digit 0 b) refl (third true bs) ∙ sym (ap (weighed_line s.source s.target) (small_is b (first (pieces bs))))
before_third_other false s b bs = stays false Rest refl (λ t c. refl) (record s { weight = 1 }) bs

before_third_at : (w : Bool) (s : Scan) (b : ℕ) (bs : List ℕ) (t : Bool) → is_blank b ≡ t →
    then_said w (at_stage AfterTarget s) bs ≡ weighed_line s.source s.target (weight_of w (fields (pieces bs))) →
    then_said w (at_stage AfterTarget s) (b ∷ bs) ≡ weighed_line s.source s.target (weight_of w (fields (pieces (b ∷ bs))))
before_third_at w s b bs true e rest = on_blank w (at_stage AfterTarget s) b bs e ∙ rest ∙ sym (ap (λ fs. weighed_line s.source s.target (weight_of w fs)) (fields_blank b bs e))
before_third_at w s b bs false e rest = on_other w (at_stage AfterTarget s) b bs e ∙ before_third_other w (at_stage AfterTarget s) b bs ∙ sym (ap (λ fs. weighed_line s.source s.target (weight_of w fs)) (fields_other b bs e))

before_third : (w : Bool) (s : Scan) (bs : List ℕ) → then_said w (at_stage AfterTarget s) bs ≡ weighed_line s.source s.target (weight_of w (fields (pieces bs)))
before_third w s [] = refl
before_third w s (b ∷ bs) = before_third_at w s b bs (is_blank b) refl (before_third w s bs)

-- ---- the second field

abbrev target_then : Bool → ℕ → List (List ℕ) → Option ℕ → Line
target_then w a rest None = faulty bad_id
target_then w a rest (Some b) = weighed_line a b (weight_of w rest)

target_line_is : (w : Bool) (a : ℕ) (rest : List (List ℕ)) (o : Option ℕ) → (elim o [ Some b ↦ weighed_line a b (weight_of w rest) | None ↦ faulty bad_id ]) ≡ target_then w a rest o
target_line_is w a rest None = refl
target_line_is w a rest (Some b) = refl

abbrev SecondSaid : Bool → List ℕ → Type 0
SecondSaid w bs = (s : Scan) → then_said w (at_stage Target s) bs ≡ target_then w s.source (fields (later (pieces bs))) (with_digits s.target (first (pieces bs)))

second_byte : (w : Bool) (s : Scan) (n b : ℕ) (bs : List ℕ) (o : Option ℕ) → with_digit n b ≡ o → SecondSaid w bs →
    then_said w (in_target s n b) bs ≡ target_then w s.source (fields (later (pieces bs))) (with_digits n (b ∷ first (pieces bs)))
second_byte w s n b bs (Some m) e rest = rw (e, in_target) (rest (record s { target = m }))
second_byte w s n b bs None e rest = rw (e, in_target) (stays w WrongId refl (λ t c. refl) s bs)

second_at : (w : Bool) (s : Scan) (b : ℕ) (bs : List ℕ) (t : Bool) → is_blank b ≡ t → SecondSaid w bs →
    then_said w (at_stage Target s) (b ∷ bs) ≡ target_then w s.source (fields (later (pieces (b ∷ bs)))) (with_digits s.target (first (pieces (b ∷ bs))))
second_at w s b bs true e rest = on_blank w (at_stage Target s) b bs e ∙ before_third w s bs
    ∙ sym (ap (λ ps. target_then w s.source (fields (later ps)) (with_digits s.target (first ps))) (pieces_blank b bs e))
second_at w s b bs false e rest = on_other w (at_stage Target s) b bs e ∙ second_byte w (at_stage Target s) s.target b bs (with_digit s.target b) refl rest
    ∙ sym (ap (λ ps. target_then w s.source (fields (later ps)) (with_digits s.target (first ps))) (pieces_other b bs e))

second : (w : Bool) (bs : List ℕ) → SecondSaid w bs
second w [] = λ s. refl
second w (b ∷ bs) = λ s. second_at w s b bs (is_blank b) refl (second w bs)

before_second_at : (w : Bool) (s : Scan) (b : ℕ) (bs : List ℕ) (t : Bool) → is_blank b ≡ t →
    then_said w (at_stage AfterSource s) bs ≡ target_line w s.source (fields (pieces bs)) →
    then_said w (at_stage AfterSource s) (b ∷ bs) ≡ target_line w s.source (fields (pieces (b ∷ bs)))
before_second_at w s b bs true e rest = on_blank w (at_stage AfterSource s) b bs e ∙ rest ∙ sym (ap (target_line w s.source) (fields_blank b bs e))
before_second_at w s b bs false e rest = on_other w (at_stage AfterSource s) b bs e ∙ second_byte w (at_stage AfterSource s) 0 b bs (with_digit 0 b) refl (second w bs)
    ∙ sym (ap (target_then w s.source (fields (later (pieces bs)))) (small_is b (first (pieces bs))))
    ∙ sym (target_line_is w s.source (fields (later (pieces bs))) (number_below ID_LIMIT (b ∷ first (pieces bs))))
    ∙ sym (ap (target_line w s.source) (fields_other b bs e))

before_second : (w : Bool) (s : Scan) (bs : List ℕ) → then_said w (at_stage AfterSource s) bs ≡ target_line w s.source (fields (pieces bs))
before_second w s [] = refl
before_second w s (b ∷ bs) = before_second_at w s b bs (is_blank b) refl (before_second w s bs)

-- ---- the first field

abbrev source_then : Bool → List (List ℕ) → Option ℕ → Line
source_then w rest None = faulty bad_id
source_then w rest (Some a) = target_line w a rest

source_line_is : (w : Bool) (rest : List (List ℕ)) (o : Option ℕ) → (elim o [ Some a ↦ target_line w a rest | None ↦ faulty bad_id ]) ≡ source_then w rest o
source_line_is w rest None = refl
source_line_is w rest (Some a) = refl

abbrev FirstSaid : Bool → List ℕ → Type 0
FirstSaid w bs = (s : Scan) → then_said w (at_stage Source s) bs ≡ source_then w (fields (later (pieces bs))) (with_digits s.source (first (pieces bs)))

first_byte : (w : Bool) (s : Scan) (n b : ℕ) (bs : List ℕ) (o : Option ℕ) → with_digit n b ≡ o → FirstSaid w bs →
    then_said w (in_source s n b) bs ≡ source_then w (fields (later (pieces bs))) (with_digits n (b ∷ first (pieces bs)))
first_byte w s n b bs (Some m) e rest = rw (e, in_source) (rest (record s { source = m }))
first_byte w s n b bs None e rest = rw (e, in_source) (stays w WrongId refl (λ t c. refl) s bs)

first_at : (w : Bool) (s : Scan) (b : ℕ) (bs : List ℕ) (t : Bool) → is_blank b ≡ t → FirstSaid w bs →
    then_said w (at_stage Source s) (b ∷ bs) ≡ source_then w (fields (later (pieces (b ∷ bs)))) (with_digits s.source (first (pieces (b ∷ bs))))
first_at w s b bs true e rest = on_blank w (at_stage Source s) b bs e ∙ before_second w s bs
    ∙ sym (ap (λ ps. source_then w (fields (later ps)) (with_digits s.source (first ps))) (pieces_blank b bs e))
first_at w s b bs false e rest = on_other w (at_stage Source s) b bs e ∙ first_byte w (at_stage Source s) s.source b bs (with_digit s.source b) refl rest
    ∙ sym (ap (λ ps. source_then w (fields (later ps)) (with_digits s.source (first ps))) (pieces_other b bs e))

firsts : (w : Bool) (bs : List ℕ) → FirstSaid w bs
firsts w [] = λ s. refl
firsts w (b ∷ bs) = λ s. first_at w s b bs (is_blank b) refl (firsts w bs)

-- a line that begins with this byte of its first field
first_other : (w : Bool) (s : Scan) (b : ℕ) (bs : List ℕ) → is_blank b ≡ false → then_said w (in_source s 0 b) bs ≡ source_line w (fields (pieces (b ∷ bs)))
first_other w s b bs e = first_byte w s 0 b bs (with_digit 0 b) refl (firsts w bs)
    ∙ sym (ap (source_then w (fields (later (pieces bs)))) (small_is b (first (pieces bs))))
    ∙ sym (source_line_is w (fields (later (pieces bs))) (number_below ID_LIMIT (b ∷ first (pieces bs))))
    ∙ sym (ap (source_line w) (fields_other b bs e))

indent_at : (w : Bool) (s : Scan) (b : ℕ) (bs : List ℕ) (t : Bool) → is_blank b ≡ t →
    then_said w (at_stage Indent s) bs ≡ source_line w (fields (pieces bs)) →
    then_said w (at_stage Indent s) (b ∷ bs) ≡ source_line w (fields (pieces (b ∷ bs)))
indent_at w s b bs true e rest = on_blank w (at_stage Indent s) b bs e ∙ rest ∙ sym (ap (source_line w) (fields_blank b bs e))
indent_at w s b bs false e rest = on_other w (at_stage Indent s) b bs e ∙ first_other w (at_stage Indent s) b bs e

indent : (w : Bool) (s : Scan) (bs : List ℕ) → then_said w (at_stage Indent s) bs ≡ source_line w (fields (pieces bs))
indent w s [] = refl
indent w s (b ∷ bs) = indent_at w s b bs (is_blank b) refl (indent w s bs)

-- ---- the first byte of a line

-- what the line says, with no heed of a return
abbrev plain_line : Bool → List ℕ → Line
plain_line w line = if is_comment line then skipped else source_line w (fields_of line)

no_mark : (b : ℕ) → is_blank b ≡ true → (b == 35 || b == 37) ≡ false
no_mark b e = grind (arith, nat_tests)

start_other : (w : Bool) (b : ℕ) (bs : List ℕ) (t : Bool) → (b == 35 || b == 37) ≡ t → is_blank b ≡ false → then_said w (at_start line_start b) bs ≡ plain_line w (b ∷ bs)
start_other w b bs true m e = rw m (stays w Comment refl (λ t c. refl) line_start bs)
start_other w b bs false m e = rw m (first_other w line_start b bs e)

start_at : (w : Bool) (b : ℕ) (bs : List ℕ) (t : Bool) → is_blank b ≡ t → then_said w line_start (b ∷ bs) ≡ plain_line w (b ∷ bs)
start_at w b bs true e = on_blank w line_start b bs e ∙ indent w line_start bs ∙ sym (ap (source_line w) (fields_blank b bs e)) ∙ sym (ap (λ t. cond t skipped (source_line w (fields_of (b ∷ bs)))) (no_mark b e))
start_at w b bs false e = on_other w line_start b bs e ∙ start_other w b bs (b == 35 || b == 37) refl e

start : (w : Bool) (bs : List ℕ) → then_said w line_start bs ≡ plain_line w bs
start w [] = refl
start w (b ∷ bs) = start_at w b bs (is_blank b) refl

-- ---- carriage returns

abbrev free : Scan → Scan
free s = record s { held = false }

abbrev holding : Scan → Scan
holding s = record s { held = true }

-- a return that is held says nothing of itself
judged_holding : (stage : Stage) (s t : Scan) → s.source ≡ t.source → s.target ≡ t.target → s.weight ≡ t.weight → judged_at stage s ≡ judged_at stage t
judged_holding Start s t a b c = refl
judged_holding Comment s t a b c = refl
judged_holding Indent s t a b c = refl
judged_holding Source s t a b c = refl
judged_holding AfterSource s t a b c = refl
judged_holding Target s t a b c = cc
judged_holding AfterTarget s t a b c = cc
judged_holding Weight s t a b c = cc
judged_holding Rest s t a b c = cc
judged_holding WrongId s t a b c = refl
judged_holding WrongWeight s t a b c = refl

held_source : (s : Scan) (n b : ℕ) (o : Option ℕ) → with_digit n b ≡ o → in_source (free s) n b ≡ free (in_source (free s) n b)
held_source s n b (Some m) e = rw (e, in_source) refl
held_source s n b None e = rw (e, in_source) refl

held_target : (s : Scan) (n b : ℕ) (o : Option ℕ) → with_digit n b ≡ o → in_target (free s) n b ≡ free (in_target (free s) n b)
held_target s n b (Some m) e = rw (e, in_target) refl
held_target s n b None e = rw (e, in_target) refl

held_weight : (s : Scan) (n b : ℕ) (o : Option ℕ) → with_digit n b ≡ o → in_weight (free s) n b ≡ free (in_weight (free s) n b)
held_weight s n b (Some m) e = rw (e, in_weight) refl
held_weight s n b None e = rw (e, in_weight) refl

held_third : (w : Bool) (s : Scan) (b : ℕ) → in_third w (free s) b ≡ free (in_third w (free s) b)
held_third true s b = held_weight s 0 b (with_digit 0 b) refl
held_third false s b = refl

held_start : (s : Scan) (b : ℕ) (t : Bool) → (b == 35 || b == 37) ≡ t → at_start (free s) b ≡ free (at_start (free s) b)
held_start s b true e = rw e refl
held_start s b false e = rw e (held_source s 0 b (with_digit 0 b) refl)

held_field : (w : Bool) (stage : Stage) (s : Scan) (b : ℕ) → in_field w stage (free s) b ≡ free (in_field w stage (free s) b)
held_field w Start s b = held_start s b (b == 35 || b == 37) refl
held_field w Comment s b = refl
held_field w Indent s b = held_source s 0 b (with_digit 0 b) refl
held_field w Source s b = held_source s s.source b (with_digit s.source b) refl
held_field w AfterSource s b = held_target s 0 b (with_digit 0 b) refl
held_field w Target s b = held_target s s.target b (with_digit s.target b) refl
held_field w AfterTarget s b = held_third w s b
held_field w Weight s b = held_weight s s.weight b (with_digit s.weight b) refl
held_field w Rest s b = refl
held_field w WrongId s b = refl
held_field w WrongWeight s b = refl

held_by : (w : Bool) (s : Scan) (b : ℕ) (t : Bool) → is_blank b ≡ t → next_in_line w (free s) b ≡ free (next_in_line w (free s) b)
held_by w s b true e = rw e refl
held_by w s b false e = rw e (held_field w s.stage s b)

-- no byte of a line holds a return but the return itself
held_stays : (w : Bool) (s : Scan) (b : ℕ) → next_in_line w (free s) b ≡ free (next_in_line w (free s) b)
held_stays w s b = held_by w s b (is_blank b) refl

-- ---- the line without its last return

longer_by : (x : ℕ) (line : List ℕ) (last : ℕ) (t : Bool) → (slice_index line last == 13) ≡ t →
    cond (slice_index (x ∷ line) (suc last) == 13) (take (suc last) (x ∷ line)) (x ∷ line) ≡ x ∷ cond (slice_index line last == 13) (take last line) line
longer_by x line last true e = rw e refl
longer_by x line last false e = rw e refl

longer : (x y : ℕ) (ys : List ℕ) → without_return (x ∷ y ∷ ys) ≡ x ∷ without_return (y ∷ ys)
longer x y ys =
    let up : length (x ∷ y ∷ ys) - 1 ≡ suc (length (y ∷ ys) - 1) = omega arith in
    ap (λ n. cond (slice_index (x ∷ y ∷ ys) n == 13) (take n (x ∷ y ∷ ys)) (x ∷ y ∷ ys)) up
    ∙ longer_by x (y ∷ ys) (length (y ∷ ys) - 1) (slice_index (y ∷ ys) (length (y ∷ ys) - 1) == 13) refl

-- what is said after these bytes, where returns are held back
abbrev held_said : Bool → Scan → List ℕ → Line
held_said w s bytes = judged (fold (next_byte w) s bytes)

-- the two ways to read a byte, where the same is known before it
abbrev next_from : Bool → ℕ → Bool → Scan → Scan
next_from w b t s = cond t (holding s) (next_in_line w s b)

-- the scan after x, by which the rest of the line is read
abbrev HeldSaid : Bool → List ℕ → Type 0
HeldSaid w line = (s : Scan) → held_said w (free s) line ≡ then_said w (free s) (without_return line)

one_byte : (w : Bool) (s : Scan) (x : ℕ) (t : Bool) → (x == 13) ≡ t → held_said w (free s) (x ∷ []) ≡ then_said w (free s) (cond t [] (x ∷ []))
one_byte w s x true e = ap (λ t. judged (next_from w x t (free s))) e ∙ judged_holding s.stage (holding (free s)) (free s) refl refl refl
one_byte w s x false e = ap (λ t. judged (next_from w x t (free s))) e

after_return : (w : Bool) (s : Scan) (y : ℕ) (ys : List ℕ) → HeldSaid w (y ∷ ys) → held_said w (holding (free s)) (y ∷ ys) ≡ then_said w (free s) (13 ∷ without_return (y ∷ ys))
after_return w s y ys rest =
    let after : Scan = next_in_line w (free s) 13 in
    ap (λ t. judged (fold (next_byte w) (next_from w y (y == 13) t) ys)) (held_stays w s 13)
    ∙ rest after ∙ ap (λ t. then_said w t (without_return (y ∷ ys))) (sym (held_stays w s 13))

more_bytes : (w : Bool) (s : Scan) (x y : ℕ) (ys : List ℕ) (t : Bool) → (x == 13) ≡ t → HeldSaid w (y ∷ ys) →
    held_said w (free s) (x ∷ y ∷ ys) ≡ then_said w (free s) (x ∷ without_return (y ∷ ys))
more_bytes w s x y ys true e rest =
    let same : x ≡ 13 = eqb-true x 13 e in
    ap (λ t. judged (fold (next_byte w) (next_from w x t (free s)) (y ∷ ys))) e ∙ after_return w s y ys rest ∙ sym (ap (λ b. then_said w (free s) (b ∷ without_return (y ∷ ys))) same)
more_bytes w s x y ys false e rest =
    let after : Scan = next_in_line w (free s) x in
    ap (λ t. judged (fold (next_byte w) (next_from w x t (free s)) (y ∷ ys))) e ∙ ap (λ t. held_said w t (y ∷ ys)) (held_stays w s x)
    ∙ rest after ∙ ap (λ t. then_said w t (without_return (y ∷ ys))) (sym (held_stays w s x))

held_is : (w : Bool) (line : List ℕ) → HeldSaid w line
held_is w [] = λ s. refl
held_is w (x ∷ []) = λ s. one_byte w s x (x == 13) refl
held_is w (x ∷ y ∷ ys) = λ s. more_bytes w s x y ys (x == 13) refl (held_is w (y ∷ ys)) ∙ sym (ap (then_said w (free s)) (longer x y ys))

-- ---- a comment is one with its return and without it

mark_at : (x : ℕ) (t : Bool) → (x == 13) ≡ t → is_comment (cond t [] (x ∷ [])) ≡ is_comment (x ∷ [])
mark_at x true e = let same : x ≡ 13 = eqb-true x 13 e in rw same refl
mark_at x false e = refl

mark_stays : (line : List ℕ) → is_comment (without_return line) ≡ is_comment line
mark_stays [] = refl
mark_stays (x ∷ []) = mark_at x (x == 13) refl
mark_stays (x ∷ y ∷ ys) = ap is_comment (longer x y ys)

-- what is known of a line at its end is what the line says
pub scanned_is : (w : Bool) (line : List ℕ) → judged (scanned w line) ≡ line_of w line
scanned_is w line = held_is w line line_start ∙ start w (without_return line) ∙ ap (λ t. cond t skipped (source_line w (fields_of (without_return line)))) (mark_stays line)
