-- One line more, and one byte more.
use Rattle.std.proofs.Common.{◌≡◌, ℕ, zero, suc, ◌+◌, ◌-◌, ◌≤◌, ◌<◌, Bool, List, [], ◌∷◌, ◌++◌, length, map, take, drop, get_or, append_assoc, refl, sym, ap, ◌∙◌, subst, arith, append-nil, length-append}
use Rattle.std.specs.Prelude.{Result, Ok, Err, ◌≢◌, OnOk, IfErr}
use Rattle.std.proofs.lemmas.List.{map-append, length-map, length-take, take_more, take-append-drop}
use Rattle.std.proofs.lemmas.List.Concat.{flat_map-append}
use Rattle.std.proofs.lemmas.List.Sums.{fold-append}
use Rattle.px_base.specs.Lines.{IdEdge, skipped, an_edge, faulty, LineFault, line_of, ends_of}
use Rattle.px_base.specs.Inputs.{InputFault, bad_line, too_many_edges, line_then, edges_within, ended_lines, input_limits}
use Rattle.edge_reader.specs.declared.fault.EdgeFault.{EdgeFault}
use Rattle.edge_reader.specs.declared.fault.EdgeFault.TheVariants.{Missing, BadId, BadWeight, TooManyVertices, TooManyEdges, TooLong, ReadFault, Memory}
use Rattle.edge_reader.specs.declared.lines.ReadLines.{ReadLines}
use Rattle.edge_reader.specs.declared.scan.Scan.{Scan}
use Rattle.edge_reader.specs.Readings.{Says, IsBadLine}
use Rattle.edge_reader.specs.Scans.{scanned, next_byte, line_start, TakesDigits, bytes_between}
use Rattle.std.specs.List.{fold, AllByRecursion}
use Rattle.std.proofs.Math.Seq.{take-add}
use Rattle.edge_reader.specs.Lists.{AreRead, IsLineFault, RefusesEdge, Adds, IsFed, open_line}
use Rattle.edge_reader.proofs.EdgesWithin.{with_edges, one_more_line, fault_stays}
use Rattle.edge_reader.proofs.Texts.{ended_newline, open_newline, ended_byte, open_byte, ended_begin, BeginsLines}

-- ---- one line more

abbrev pub outcome : Bool → List (List ℕ) → Result (List IdEdge) InputFault
outcome w lines = edges_within w 1 input_limits.edges lines

pub skipped_more : (lines : List (List ℕ)) (line : List ℕ) (old new : ReadLines) → AreRead lines old → line_of old.weighted line ≡ skipped → new.weighted ≡ old.weighted → new.line ≡ old.line + 1 →
    new.ends.items ≡ old.ends.items → new.weights.items ≡ old.weights.items → AreRead (lines ++ line ∷ []) new
skipped_more lines line old new read is same next ends weights = record {
  edges = read.edges ++ [];
  said = ap (λ w. outcome w (lines ++ line ∷ [])) same ∙ one_more_line old.weighted lines line 1 input_limits.edges read.edges skipped read.said is;
  line = omega (arith, read.line, next, length-append lines (line ∷ []));
  ends = ends ∙ read.ends ∙ ap ends_of (sym (append-nil read.edges));
  weights = weights ∙ read.weights ∙ ap (map (λ e. e.weight)) (sym (append-nil read.edges));
  few = rw append-nil read.few;
}

edge_within : (n room : ℕ) (e : IdEdge) (edges : List IdEdge) → 0 < room → with_edges edges (line_then n room (an_edge e) (Ok [])) ≡ Ok (edges ++ e ∷ [])
edge_within n zero e edges some = absurd (omega arith)
edge_within n (suc room) e edges some = refl

edge_past : (n room : ℕ) (e : IdEdge) (edges : List IdEdge) → room ≡ 0 → with_edges edges (line_then n room (an_edge e) (Ok [])) ≡ Err too_many_edges
edge_past n zero e edges none = refl
edge_past n (suc room) e edges none = absurd (omega arith)

count_of : (lines : List (List ℕ)) (old : ReadLines) (read : AreRead lines old) → length old.weights.items ≡ length read.edges
count_of lines old read = ap length read.weights ∙ length-map read.edges (λ e. e.weight)

pub edge_more : (lines : List (List ℕ)) (line : List ℕ) (e : IdEdge) (old new : ReadLines) → AreRead lines old → line_of old.weighted line ≡ an_edge e → new.weighted ≡ old.weighted → new.line ≡ old.line + 1 →
    new.ends.items ≡ old.ends.items ++ e.source ∷ e.target ∷ [] → new.weights.items ≡ old.weights.items ++ e.weight ∷ [] → length old.weights.items < input_limits.edges → AreRead (lines ++ line ∷ []) new
edge_more lines line e old new read is same next ends weights room = record {
  edges = read.edges ++ e ∷ [];
  said = ap (λ w. outcome w (lines ++ line ∷ [])) same ∙ one_more_line old.weighted lines line 1 input_limits.edges read.edges (an_edge e) read.said is
      ∙ edge_within (1 + length lines) (input_limits.edges - length read.edges) e read.edges (omega (arith, count_of lines old read));
  line = omega (arith, read.line, next, length-append lines (line ∷ []));
  ends = ends ∙ ap (λ l. l ++ e.source ∷ e.target ∷ []) read.ends ∙ sym (flat_map-append (λ x. x.source ∷ x.target ∷ []) read.edges (e ∷ []));
  weights = weights ∙ ap (λ l. l ++ e.weight ∷ []) read.weights ∙ sym (map-append (λ x. x.weight) read.edges (e ∷ []));
  few = omega (arith, length-append read.edges (e ∷ []), count_of lines old read);
}

pub bad_more : (lines : List (List ℕ)) (line : List ℕ) (what : LineFault) (old : ReadLines) → AreRead lines old → line_of old.weighted line ≡ faulty what → IsBadLine old.line what (outcome old.weighted (lines ++ line ∷ []))
bad_more lines line what old read is =
    let number : 1 + length lines ≡ old.line = omega (arith, read.line) in
    one_more_line old.weighted lines line 1 input_limits.edges read.edges (faulty what) read.said is ∙ ap (λ n. Err (bad_line (record { line = n; what = what }))) number

pub many_more : (lines : List (List ℕ)) (line : List ℕ) (e : IdEdge) (old : ReadLines) → AreRead lines old → line_of old.weighted line ≡ an_edge e → input_limits.edges ≤ length old.weights.items →
    outcome old.weighted (lines ++ line ∷ []) ≡ Err too_many_edges
many_more lines line e old read is full = one_more_line old.weighted lines line 1 input_limits.edges read.edges (an_edge e) read.said is
    ∙ edge_past (1 + length lines) (input_limits.edges - length read.edges) e read.edges (omega (arith, count_of lines old read, full))

-- an edge that is added, or why it isn't
refused_more : (lines : List (List ℕ)) (line : List ℕ) (e : IdEdge) (old : ReadLines) (fault : EdgeFault) → AreRead lines old → line_of old.weighted line ≡ an_edge e → RefusesEdge (length old.weights.items) fault →
    IsLineFault old.weighted (lines ++ line ∷ []) fault
refused_more lines line e old TooManyEdges read is h = record { said = many_more lines line e old read is h; own = λ x. cc; early = λ x. cc }
refused_more lines line e old Memory read is h = record { said = tt; own = λ x. cc; early = λ x. cc }
refused_more lines line e old (Missing n) read is h = absurd h
refused_more lines line e old (BadId n) read is h = absurd h
refused_more lines line e old (BadWeight n) read is h = absurd h
refused_more lines line e old TooManyVertices read is h = absurd h
refused_more lines line e old TooLong read is h = absurd h
refused_more lines line e old ReadFault read is h = absurd h

pub edge_adds : {T : Type 0} (lines : List (List ℕ)) (line : List ℕ) (e : IdEdge) (old new : ReadLines) (result : Result T EdgeFault) → AreRead lines old → line_of old.weighted line ≡ an_edge e →
    new.weighted ≡ old.weighted → new.line ≡ old.line + 1 → OnOk result (new.ends.items ≡ old.ends.items ++ e.source ∷ e.target ∷ []) → OnOk result (new.weights.items ≡ old.weights.items ++ e.weight ∷ []) →
    OnOk result (length old.weights.items < input_limits.edges) → IfErr result (λ fault. RefusesEdge (length old.weights.items) fault) → Adds (lines ++ line ∷ []) new result
edge_adds lines line e old new (Ok x) read is same next ends weights room refused = edge_more lines line e old new read is same next ends weights room
edge_adds lines line e old new (Err fault) read is same next ends weights room refused = subst (λ w. IsLineFault w (lines ++ line ∷ []) fault) (sym same) (refused_more lines line e old fault read is refused)

-- ---- a fault stays the first

pub says_stays : (w : Bool) (lines more : List (List ℕ)) (fault : EdgeFault) → Says (Err fault) (outcome w lines) → Says (Err fault) (outcome w (lines ++ more))
says_stays w lines more (Missing line) h = fault_stays w lines more 1 input_limits.edges _ h
says_stays w lines more (BadId line) h = fault_stays w lines more 1 input_limits.edges _ h
says_stays w lines more (BadWeight line) h = fault_stays w lines more 1 input_limits.edges _ h
says_stays w lines more TooManyVertices h = fault_stays w lines more 1 input_limits.edges _ h
says_stays w lines more TooManyEdges h = fault_stays w lines more 1 input_limits.edges _ h
says_stays w lines more TooLong h = fault_stays w lines more 1 input_limits.edges _ h
says_stays w lines more ReadFault h = tt
says_stays w lines more Memory h = tt

pub fault_longer : (w : Bool) (text more : List ℕ) (fault : EdgeFault) → IsLineFault w (ended_lines text) fault → IsLineFault w (ended_lines (text ++ more)) fault
fault_longer w text more fault h =
    let b : BeginsLines (ended_lines text) (ended_lines (text ++ more)) = ended_begin text more in
    record { said = subst (λ lines. Says (Err fault) (outcome w lines)) (sym b.is) (says_stays w (ended_lines text) b.more fault h.said); own = h.own; early = h.early }

-- ---- one byte more

pub byte_more : (text : List ℕ) (b : ℕ) (read : ReadLines) (scan : Scan) → b ≢ 10 → IsFed text read scan → IsFed (text ++ b ∷ []) read (next_byte read.weighted scan b)
byte_more text b read scan other h = (
  subst (λ lines. AreRead lines read) (sym (ended_byte text b other)) h.0,
  ap (λ s. next_byte read.weighted s b) h.1 ∙ sym (fold-append (next_byte read.weighted) line_start (open_line text) (b ∷ [])) ∙ ap (scanned read.weighted) (sym (open_byte text b other)),
)

pub newline_more : (text : List ℕ) (read : ReadLines) → AreRead (ended_lines text ++ open_line text ∷ []) read → IsFed (text ++ 10 ∷ []) read line_start
newline_more text read h = (subst (λ lines. AreRead lines read) (sym (ended_newline text)) h, ap (scanned read.weighted) (sym (open_newline text)))

pub newline_fault : (w : Bool) (text : List ℕ) (fault : EdgeFault) → IsLineFault w (ended_lines text ++ open_line text ∷ []) fault → IsLineFault w (ended_lines (text ++ 10 ∷ [])) fault
newline_fault w text fault h = subst (λ lines. IsLineFault w lines fault) (sym (ended_newline text)) h

-- ---- the bytes of a piece, one after the other

pub one_taken : (text piece : List ℕ) (i : ℕ) → i < length piece → text ++ take (i + 1) piece ≡ (text ++ take i piece) ++ get_or piece i 0 ∷ []
one_taken text piece i below = ap (λ l. text ++ l) (take_more piece i 0 below) ∙ sym (append_assoc text (take i piece) (get_or piece i 0 ∷ []))

pub taken_small : (text piece : List ℕ) (i : ℕ) → length (text ++ take i piece) ≤ length (text ++ piece)
taken_small text piece i = simp (length-append, length-take) (omega arith)

pub fault_of_piece : (w : Bool) (text piece : List ℕ) (i : ℕ) (fault : EdgeFault) → i < length piece → IsLineFault w (ended_lines ((text ++ take i piece) ++ get_or piece i 0 ∷ [])) fault →
    IsLineFault w (ended_lines (text ++ piece)) fault
fault_of_piece w text piece i fault below h =
    let whole : (text ++ take (i + 1) piece) ++ drop (i + 1) piece ≡ text ++ piece = append_assoc text (take (i + 1) piece) (drop (i + 1) piece) ∙ ap (λ l. text ++ l) (take-append-drop (i + 1) piece) in
    subst (λ l. IsLineFault w (ended_lines l) fault) whole
    (fault_longer w (text ++ take (i + 1) piece) (drop (i + 1) piece) fault (subst (λ l. IsLineFault w (ended_lines l) fault) (sym (one_taken text piece i below)) h))

-- ---- several bytes of a line

pub bytes_more : (bytes text : List ℕ) (read : ReadLines) (scan : Scan) → AllByRecursion (λ b. b ≢ 10) bytes → IsFed text read scan → IsFed (text ++ bytes) read (fold (next_byte read.weighted) scan bytes)
bytes_more [] text read scan none h = rw append-nil h
bytes_more (b ∷ bs) text read scan none h =
    subst (λ l. IsFed l read (fold (next_byte read.weighted) scan (b ∷ bs))) (append_assoc text (b ∷ []) bs)
    (bytes_more bs (text ++ b ∷ []) read (next_byte read.weighted scan b) none.1 (byte_more text b read scan none.0 h))

between : (piece : List ℕ) (from to : ℕ) → from ≤ to → take from piece ++ bytes_between piece from to ≡ take to piece
between piece from to h = let sum : to ≡ from + (to - from) = omega arith in sym (ap (λ n. take n piece) sum ∙ take-add from (to - from) piece)

-- a scan takes the bytes of a piece between two places
pub digits_more : (text piece : List ℕ) (from to : ℕ) (read : ReadLines) (old new : Scan) → from ≤ to → TakesDigits old new (bytes_between piece from to) → IsFed (text ++ take from piece) read old → IsFed (text ++ take to piece) read new
digits_more text piece from to read old new h takes fed =
    let whole : (text ++ take from piece) ++ bytes_between piece from to ≡ text ++ take to piece = append_assoc text (take from piece) (bytes_between piece from to) ∙ ap (λ l. text ++ l) (between piece from to h) in
    subst (λ l. IsFed l read new) whole (subst (IsFed ((text ++ take from piece) ++ bytes_between piece from to) read) (sym (takes.taken read.weighted))
    (bytes_more (bytes_between piece from to) (text ++ take from piece) read old takes.inside fed))
