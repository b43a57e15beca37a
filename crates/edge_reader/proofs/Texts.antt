-- The lines of a text, and of a longer one.
use Rattle.std.proofs.Common.{[], ◌≡◌, ℕ, suc, ◌+◌, ◌≤◌, Bool, true, false, cond, List, ◌∷◌, ◌++◌, length, refl, sym, ap, ◌∙◌, arith, append-nil, length-append}
use Rattle.std.specs.Prelude.{◌==◌, ◌≢◌}
use Rattle.std.proofs.lemmas.Bool.{ne_eqb}
use Rattle.px_base.specs.Lines.{pieces_at, in_front, has_bytes, without_empty_end, lines_of}
use Rattle.px_base.specs.Inputs.{without_last, ended_lines}
use Rattle.edge_reader.specs.Lists.{newline_pieces, last_of, open_line}

-- the piece in front of the first of the pieces, as one piece
abbrev pub joined_to : List ℕ → List (List ℕ) → List (List ℕ)
joined_to piece [] = piece ∷ []
joined_to piece (p ∷ ps) = (piece ++ p) ∷ ps

-- ---- lists of pieces

last_splits : (p : List ℕ) (ps : List (List ℕ)) → without_last (p ∷ ps) ++ last_of (p ∷ ps) ∷ [] ≡ p ∷ ps
last_splits p [] = refl
last_splits p (q ∷ qs) = ap (λ l. p ∷ l) (last_splits q qs)

without_last_over : (xs : List (List ℕ)) (y : List ℕ) (ys : List (List ℕ)) → without_last (xs ++ y ∷ ys) ≡ xs ++ without_last (y ∷ ys)
without_last_over [] y ys = refl
without_last_over (x ∷ []) y ys = refl
without_last_over (x ∷ z ∷ zs) y ys = ap (λ l. x ∷ l) (without_last_over (z ∷ zs) y ys)

last_over : (xs : List (List ℕ)) (y : List ℕ) (ys : List (List ℕ)) → last_of (xs ++ y ∷ ys) ≡ last_of (y ∷ ys)
last_over [] y ys = refl
last_over (x ∷ []) y ys = refl
last_over (x ∷ z ∷ zs) y ys = last_over (z ∷ zs) y ys

empty_end_over : (xs : List (List ℕ)) (y : List ℕ) (ys : List (List ℕ)) → without_empty_end (xs ++ y ∷ ys) ≡ xs ++ without_empty_end (y ∷ ys)
empty_end_over [] y ys = refl
empty_end_over (x ∷ []) y ys = refl
empty_end_over (x ∷ z ∷ zs) y ys = ap (λ l. x ∷ l) (empty_end_over (z ∷ zs) y ys)

-- ---- pieces of a text and of a longer one

-- some piece and further pieces
pub record IsSome (ps : List (List ℕ)) : Type 0 where
  pub first : List ℕ
  pub later : List (List ℕ)
  pub is : ps ≡ first ∷ later

front_some : (x : ℕ) (ps : List (List ℕ)) → IsSome (in_front x ps)
front_some x [] = record { first = x ∷ []; later = []; is = refl }
front_some x (p ∷ ps) = record { first = x ∷ p; later = ps; is = refl }

some_at : (test : ℕ → Bool) (x : ℕ) (ps : List (List ℕ)) (t : Bool) → IsSome (cond t ([] ∷ ps) (in_front x ps))
some_at test x ps true = record { first = []; later = ps; is = refl }
some_at test x ps false = front_some x ps

pub some_piece : (test : ℕ → Bool) (text : List ℕ) → IsSome (pieces_at test text)
some_piece test [] = record { first = []; later = []; is = refl }
some_piece test (x ∷ xs) = some_at test x (pieces_at test xs) (test x)

-- all pieces but the last stay, and the last goes on
abbrev pub pieces_longer : List (List ℕ) → List (List ℕ) → List (List ℕ)
pieces_longer ps more = without_last ps ++ joined_to (last_of ps) more

front_joined : (x : ℕ) (p : List ℕ) (more : List (List ℕ)) → in_front x (joined_to p more) ≡ joined_to (x ∷ p) more
front_joined x p [] = refl
front_joined x p (q ∷ qs) = refl

front_longer : (x : ℕ) (p : List ℕ) (ps more : List (List ℕ)) → in_front x (pieces_longer (p ∷ ps) more) ≡ pieces_longer ((x ∷ p) ∷ ps) more
front_longer x p [] more = front_joined x p more
front_longer x p (q ∷ qs) more = refl

longer_at : (x : ℕ) (ps more : List (List ℕ)) (t : Bool) → IsSome ps → cond t ([] ∷ pieces_longer ps more) (in_front x (pieces_longer ps more)) ≡ pieces_longer (cond t ([] ∷ ps) (in_front x ps)) more
longer_at x ps more true s = rw s.is refl
longer_at x ps more false s = rw s.is (front_longer x s.first s.later more)

-- the pieces of a text and of what follows it
pub pieces_append : (test : ℕ → Bool) (text more : List ℕ) → pieces_at test (text ++ more) ≡ pieces_longer (pieces_at test text) (pieces_at test more)
pieces_append test [] more = let s : IsSome (pieces_at test more) = some_piece test more in rw s.is refl
pieces_append test (x ∷ xs) more =
    ap (λ ps. cond (test x) ([] ∷ ps) (in_front x ps)) (pieces_append test xs more)
    ∙ longer_at x (pieces_at test xs) (pieces_at test more) (test x) (some_piece test xs)

-- ---- the lines of a text

abbrev newline : ℕ → Bool
newline b = b == 10

-- the lines that ended, and the one that is open
pub pieces_split : (text : List ℕ) → ended_lines text ++ open_line text ∷ [] ≡ newline_pieces text
pieces_split text = let s : IsSome (newline_pieces text) = some_piece newline text in rw s.is (last_splits s.first s.later)

-- a newline ends the open line
newline_after : (text : List ℕ) → newline_pieces (text ++ 10 ∷ []) ≡ ended_lines text ++ open_line text ∷ [] ∷ []
newline_after text = pieces_append newline text (10 ∷ []) ∙ ap (λ l. ended_lines text ++ l ∷ [] ∷ []) (append-nil (open_line text))

pub ended_newline : (text : List ℕ) → ended_lines (text ++ 10 ∷ []) ≡ ended_lines text ++ open_line text ∷ []
ended_newline text = ap without_last (newline_after text) ∙ without_last_over (ended_lines text) (open_line text) ([] ∷ [])

pub open_newline : (text : List ℕ) → open_line (text ++ 10 ∷ []) ≡ []
open_newline text = ap last_of (newline_after text) ∙ last_over (ended_lines text) (open_line text) ([] ∷ [])

-- another byte goes on with it
one_piece : (b : ℕ) → b ≢ 10 → newline_pieces (b ∷ []) ≡ (b ∷ []) ∷ []
one_piece b other = let e : (b == 10) ≡ false = ne_eqb b 10 other in rw e refl

byte_after : (text : List ℕ) (b : ℕ) → b ≢ 10 → newline_pieces (text ++ b ∷ []) ≡ ended_lines text ++ (open_line text ++ b ∷ []) ∷ []
byte_after text b other = pieces_append newline text (b ∷ []) ∙ ap (pieces_longer (newline_pieces text)) (one_piece b other)

pub ended_byte : (text : List ℕ) (b : ℕ) → b ≢ 10 → ended_lines (text ++ b ∷ []) ≡ ended_lines text
ended_byte text b other = ap without_last (byte_after text b other) ∙ without_last_over (ended_lines text) (open_line text ++ b ∷ []) [] ∙ append-nil (ended_lines text)

pub open_byte : (text : List ℕ) (b : ℕ) → b ≢ 10 → open_line (text ++ b ∷ []) ≡ open_line text ++ b ∷ []
open_byte text b other = ap last_of (byte_after text b other) ∙ last_over (ended_lines text) (open_line text ++ b ∷ []) []

-- ---- what ended stays ended

joined_some : (p : List ℕ) (more : List (List ℕ)) → IsSome (joined_to p more)
joined_some p [] = record { first = p; later = []; is = refl }
joined_some p (q ∷ qs) = record { first = p ++ q; later = qs; is = refl }

-- the lines that ended begin those of a longer text
pub record BeginsLines (text longer : List (List ℕ)) : Type 0 where
  pub more : List (List ℕ)
  pub is : longer ≡ text ++ more

pub ended_begin : (text more : List ℕ) → BeginsLines (ended_lines text) (ended_lines (text ++ more))
ended_begin text more =
    let next : List (List ℕ) = joined_to (open_line text) (newline_pieces more) in
    let s : IsSome next = joined_some (open_line text) (newline_pieces more) in
    record {
      more = without_last (s.first ∷ s.later);
      is = ap without_last (pieces_append newline text more ∙ ap (λ l. ended_lines text ++ l) s.is) ∙ without_last_over (ended_lines text) s.first s.later;
    }

pub ended_begin_all : (text more : List ℕ) → BeginsLines (ended_lines text) (lines_of (text ++ more))
ended_begin_all text more =
    let next : List (List ℕ) = joined_to (open_line text) (newline_pieces more) in
    let s : IsSome next = joined_some (open_line text) (newline_pieces more) in
    record {
      more = without_empty_end (s.first ∷ s.later);
      is = ap without_empty_end (pieces_append newline text more ∙ ap (λ l. ended_lines text ++ l) s.is) ∙ empty_end_over (ended_lines text) s.first s.later;
    }

-- the lines of a text are those that ended, and the open one if it has a byte
pub lines_split : (text : List ℕ) → lines_of text ≡ ended_lines text ++ cond (has_bytes (open_line text)) (open_line text ∷ []) []
lines_split text = ap without_empty_end (sym (pieces_split text)) ∙ empty_end_over (ended_lines text) (open_line text) []

-- ---- there are no more lines than bytes

front_length : (x : ℕ) (ps : List (List ℕ)) (n : ℕ) → length ps ≤ n + 1 → length (in_front x ps) ≤ n + 1
front_length x [] n h = omega arith
front_length x (p ∷ ps) n h = h

length_at : (x : ℕ) (ps : List (List ℕ)) (n : ℕ) (t : Bool) → length ps ≤ n + 1 → length (cond t ([] ∷ ps) (in_front x ps)) ≤ suc n + 1
length_at x ps n true h = omega arith
length_at x ps n false h = omega (arith, front_length x ps n h)

pub pieces_few : (test : ℕ → Bool) (text : List ℕ) → length (pieces_at test text) ≤ length text + 1
pieces_few test [] = omega arith
pieces_few test (x ∷ xs) = length_at x (pieces_at test xs) (length xs) (test x) (pieces_few test xs)

pub ended_few : (text : List ℕ) → length (ended_lines text) ≤ length text
ended_few text = omega (arith, pieces_few newline text, ap length (pieces_split text), length-append (ended_lines text) (open_line text ∷ []))
