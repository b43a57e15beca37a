-- The edges of some lines and then of more.
use Rattle.std.proofs.Common.{◌≡◌, ℕ, zero, suc, ◌+◌, ◌-◌, Bool, false, cond, List, [], ◌∷◌, ◌++◌, length, refl, sym, ap, ◌∙◌, arith, append-nil}
use Rattle.std.specs.Prelude.{Result, Ok, Err, ◌==◌}
use Rattle.std.proofs.lemmas.Bool.{ne_eqb}
use Rattle.px_base.specs.Lines.{IdEdge, Line, skipped, an_edge, faulty, line_of, has_bytes, lines_of}
use Rattle.px_base.specs.Inputs.{InputFault, with_edge, room_after, line_then, edges_within, ended_lines}
use Rattle.edge_reader.specs.Lists.{newline_pieces, open_line}
use Rattle.edge_reader.proofs.Texts.{lines_split, pieces_split}

-- the edges in front of those of the lines after them, or their fault
abbrev pub with_edges : List IdEdge → Result (List IdEdge) InputFault → Result (List IdEdge) InputFault
with_edges edges (Ok more) = Ok (edges ++ more)
with_edges edges (Err fault) = Err fault

-- the first lines' fault, or what their edges and the further lines say together
abbrev pub and_then : Result (List IdEdge) InputFault → (List IdEdge → Result (List IdEdge) InputFault) → Result (List IdEdge) InputFault
and_then (Err fault) rest = Err fault
and_then (Ok edges) rest = with_edges edges (rest edges)

with_no_edges : (r : Result (List IdEdge) InputFault) → r ≡ with_edges [] r
with_no_edges (Ok edges) = refl
with_no_edges (Err fault) = refl

edge_over : (e : IdEdge) (edges : List IdEdge) (r : Result (List IdEdge) InputFault) → with_edge e (with_edges edges r) ≡ with_edges (e ∷ edges) r
edge_over e edges (Ok more) = refl
edge_over e edges (Err fault) = refl

-- what the further lines say, from their number on and with the room that is left
abbrev pub Rest : Type 0
Rest = ℕ → ℕ → Result (List IdEdge) InputFault

edge_then : (e : IdEdge) (n m room : ℕ) (rest : Rest) (r : Result (List IdEdge) InputFault) →
    with_edge e (and_then r (λ edges. rest (n + 1 + m) (suc room - 1 - length edges))) ≡ and_then (with_edge e r) (λ edges. rest (n + suc m) (suc room - length edges))
edge_then e n m room rest (Err fault) = refl
edge_then e n m room rest (Ok edges) =
    let at : n + 1 + m ≡ n + suc m = omega arith in
    let left : suc room - 1 - length edges ≡ suc room - length (e ∷ edges) = omega arith in
    edge_over e edges (rest (n + 1 + m) (suc room - 1 - length edges)) ∙ ap (λ k. with_edges (e ∷ edges) (rest k (suc room - 1 - length edges))) at ∙ ap (λ k. with_edges (e ∷ edges) (rest (n + suc m) k)) left

line_over : (n m room : ℕ) (line : Line) (rest : Rest) (r : ℕ → Result (List IdEdge) InputFault) →
    line_then n room line (and_then (r (room_after line room)) (λ edges. rest (n + 1 + m) (room_after line room - length edges)))
    ≡ and_then (line_then n room line (r (room_after line room))) (λ edges. rest (n + suc m) (room - length edges))
line_over n m room skipped rest r = let at : n + 1 + m ≡ n + suc m = omega arith in ap (λ k. and_then (r room) (λ edges. rest k (room - length edges))) at
line_over n m room (faulty what) rest r = refl
line_over n m zero (an_edge e) rest r = refl
line_over n m (suc room) (an_edge e) rest r = edge_then e n m room rest (r (suc room - 1))

-- the edges of some lines and then of more
pub edges_append : (w : Bool) (lines more : List (List ℕ)) (n room : ℕ) →
    edges_within w n room (lines ++ more) ≡ and_then (edges_within w n room lines) (λ edges. edges_within w (n + length lines) (room - length edges) more)
edges_append w [] more n room =
    let at : n + 0 ≡ n = omega arith in
    let left : room - 0 ≡ room = omega arith in
    with_no_edges (edges_within w n room more) ∙ sym (ap (λ k. with_edges [] (edges_within w k (room - 0) more)) at ∙ ap (λ k. with_edges [] (edges_within w n k more)) left)
edges_append w (line ∷ lines) more n room =
    let this : Line = line_of w line in
    ap (line_then n room this) (edges_append w lines more (n + 1) (room_after this room))
    ∙ line_over n (length lines) room this (λ k left. edges_within w k left more) (λ left. edges_within w (n + 1) left lines)

-- a fault of some lines is that of all
pub fault_stays : (w : Bool) (lines more : List (List ℕ)) (n room : ℕ) (fault : InputFault) → edges_within w n room lines ≡ Err fault → edges_within w n room (lines ++ more) ≡ Err fault
fault_stays w lines more n room fault e = edges_append w lines more n room ∙ ap (λ r. and_then r (λ edges. edges_within w (n + length lines) (room - length edges) more)) e

-- one line more
pub one_more_line : (w : Bool) (lines : List (List ℕ)) (line : List ℕ) (n room : ℕ) (edges : List IdEdge) (said : Line) → edges_within w n room lines ≡ Ok edges → line_of w line ≡ said →
    edges_within w n room (lines ++ line ∷ []) ≡ with_edges edges (line_then (n + length lines) (room - length edges) said (Ok []))
one_more_line w lines line n room edges said e is =
    edges_append w lines (line ∷ []) n room
    ∙ ap (λ r. and_then r (λ es. edges_within w (n + length lines) (room - length es) (line ∷ []))) e
    ∙ ap (λ l. with_edges edges (line_then (n + length lines) (room - length edges) l (Ok []))) is

-- a line without a byte adds nothing
all_kept : (r : Result (List IdEdge) InputFault) → and_then r (λ edges. Ok []) ≡ r
all_kept (Ok edges) = ap (λ l. Ok l) (append-nil edges)
all_kept (Err fault) = refl

open_at : (w : Bool) (lines : List (List ℕ)) (line : List ℕ) (n room : ℕ) →
    edges_within w n room (lines ++ cond (has_bytes line) (line ∷ []) []) ≡ edges_within w n room (lines ++ line ∷ [])
open_at w lines [] n room = edges_append w lines [] n room ∙ sym (edges_append w lines ([] ∷ []) n room)
open_at w lines (b ∷ bs) n room = let some : (length (b ∷ bs) == 0) ≡ false = ne_eqb (length (b ∷ bs)) 0 (λ e. omega (arith, e)) in rw some refl

-- the lines of a text say what its pieces say
pub pieces_say : (w : Bool) (text : List ℕ) (n room : ℕ) → edges_within w n room (lines_of text) ≡ edges_within w n room (newline_pieces text)
pieces_say w text n room = ap (edges_within w n room) (lines_split text) ∙ open_at w (ended_lines text) (open_line text) n room ∙ ap (edges_within w n room) (pieces_split text)
