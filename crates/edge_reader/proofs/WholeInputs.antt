-- What the bytes that were taken say of the whole input.
use Rattle.std.proofs.Common.{[], ◌≡◌, ℕ, ◌+◌, ◌-◌, ◌*◌, ◌≤◌, ◌<◌, ◌^◌, Bool, true, false, cond, List, ◌∷◌, ◌++◌, length, map, take, drop, refl, sym, ap, ◌∙◌, subst, arith, append-nil, append_assoc, length-append}
use Rattle.std.specs.Prelude.{◌≢◌, Option, Some, None, Result, Ok, Err, nat_lt}
use Rattle.std.specs.Io.KnownBytes.{Consumes, IsAtEnd, Keeps}
use Rattle.std.proofs.KnownBytes.{Consumes-nil, Consumes-trans, Consumes-kept}
use Rattle.std.proofs.lemmas.Bool.{le-ltb, lt-ltb, ltb-true, ltb-false}
use Rattle.std.proofs.Math.Seq.{take-append-add}
use Rattle.std.proofs.lemmas.List.{take-append-drop, take-take, take_at, length-take-le, length-drop, length-map}
use Rattle.px_base.specs.declared.TheConstants.{MOST_EDGES}
use Rattle.px_base.specs.declared.graph.EdgeList.{EdgeList}
use Rattle.px_base.specs.Lines.{IdEdge, lines_of, ends_of}
use Rattle.px_base.specs.Inputs.{InputFault, too_long, ended_lines, input_limits, input_of, result_at_end, result_cut_short}
use Rattle.edge_reader.specs.declared.fault.EdgeFault.{EdgeFault}
use Rattle.edge_reader.specs.declared.fault.EdgeFault.TheVariants.{Missing, BadId, BadWeight, TooManyVertices, TooManyEdges, TooLong, ReadFault, Memory}
use Rattle.edge_reader.specs.declared.lines.ReadLines.{ReadLines}
use Rattle.edge_reader.specs.declared.scan.Scan.{Scan}
use Rattle.edge_reader.specs.Readings.{Says, IsReadingOf, HasNoFault}
use Rattle.edge_reader.specs.Lists.{AreRead, IsLineFault, Adds, IsFed, FeedsOn, open_line, newline_pieces, AreAllRead, ReadsAll}
use Rattle.edge_reader.proofs.EdgesWithin.{pieces_say}
use Rattle.edge_reader.proofs.Texts.{ended_begin, ended_begin_all, BeginsLines, pieces_split}
use Rattle.edge_reader.proofs.MoreLines.{outcome, says_stays}
use Rattle.edge_reader.proofs.PlacedEnds.{ends_length}

-- ---- the outcome of an input, by its length

pub within_limit : (w : Bool) (text : List ℕ) → length text ≤ input_limits.bytes → input_of input_limits w text ≡ result_at_end input_limits.vertices (outcome w (lines_of text))
within_limit w text h = ap (λ t. cond t (result_cut_short (outcome w (ended_lines (take input_limits.bytes text)))) (result_at_end input_limits.vertices (outcome w (lines_of text)))) (le-ltb input_limits.bytes (length text) h)

past_limit : (w : Bool) (text : List ℕ) → input_limits.bytes < length text → input_of input_limits w text ≡ result_cut_short (outcome w (ended_lines (take input_limits.bytes text)))
past_limit w text h = ap (λ t. cond t (result_cut_short (outcome w (ended_lines (take input_limits.bytes text)))) (result_at_end input_limits.vertices (outcome w (lines_of text)))) (lt-ltb input_limits.bytes (length text) h)

-- ---- a line's fault is that of the input

says_kept : (f : Result (List IdEdge) InputFault → Result (List IdEdge) InputFault) → ((x : InputFault) → f (Err x) ≡ Err x) → (r : Result (List IdEdge) InputFault) (fault : EdgeFault) → Says (Err fault) r → Says (Err fault) (f r)
says_kept f keeps r (Missing line) h = ap f h ∙ keeps _
says_kept f keeps r (BadId line) h = ap f h ∙ keeps _
says_kept f keeps r (BadWeight line) h = ap f h ∙ keeps _
says_kept f keeps r TooManyVertices h = ap f h ∙ keeps _
says_kept f keeps r TooManyEdges h = ap f h ∙ keeps _
says_kept f keeps r TooLong h = ap f h ∙ keeps _
says_kept f keeps r ReadFault h = tt
says_kept f keeps r Memory h = tt

fault_at_end : (w : Bool) (text : List ℕ) (fault : EdgeFault) → length text ≤ input_limits.bytes → Says (Err fault) (outcome w (lines_of text)) → Says (Err fault) (input_of input_limits w text)
fault_at_end w text fault short h = subst (Says (Err fault)) (sym (within_limit w text short)) (says_kept (result_at_end input_limits.vertices) (λ x. refl) (outcome w (lines_of text)) fault h)

take-append : (n : ℕ) (front more : List ℕ) → length front ≤ n → take n (front ++ more) ≡ front ++ take (n - length front) more
take-append n front more h =
    let sum : n ≡ length front + (n - length front) = omega arith in
    ap (λ k. take k (front ++ more)) sum ∙ take-append-add front more (n - length front)

early_at : (w : Bool) (front more : List ℕ) (fault : EdgeFault) (t : Bool) → nat_lt input_limits.bytes (length (front ++ more)) ≡ t → length front ≤ input_limits.bytes → Says (Err fault) (outcome w (ended_lines front)) →
    Says (Err fault) (input_of input_limits w (front ++ more))
early_at w front more fault true e short h =
    let b : BeginsLines (ended_lines front) (ended_lines (front ++ take (input_limits.bytes - length front) more)) = ended_begin front (take (input_limits.bytes - length front) more) in
    subst (Says (Err fault)) (sym (past_limit w (front ++ more) (ltb-true input_limits.bytes (length (front ++ more)) e)))
    (says_kept result_cut_short (λ x. refl) (outcome w (ended_lines (take input_limits.bytes (front ++ more)))) fault
    (subst (λ l. Says (Err fault) (outcome w (ended_lines l))) (sym (take-append input_limits.bytes front more short)) (subst (λ ls. Says (Err fault) (outcome w ls)) (sym b.is) (says_stays w (ended_lines front) b.more fault h))))
early_at w front more fault false e short h =
    let b : BeginsLines (ended_lines front) (lines_of (front ++ more)) = ended_begin_all front more in
    fault_at_end w (front ++ more) fault (ltb-false input_limits.bytes (length (front ++ more)) e) (subst (λ ls. Says (Err fault) (outcome w ls)) (sym b.is) (says_stays w (ended_lines front) b.more fault h))

-- the fault of a line that ended is that of the input, whatever follows
pub early : (w : Bool) (front more : List ℕ) (fault : EdgeFault) → length front ≤ input_limits.bytes → IsLineFault w (ended_lines front) fault → Says (Err fault) (input_of input_limits w (front ++ more))
early w front more fault short h = early_at w front more fault (nat_lt input_limits.bytes (length (front ++ more))) refl short h.said

-- an input with a byte too many, whose lines before that byte have no fault
pub cut_short : (w : Bool) (front more : List ℕ) (edges : List IdEdge) → length front ≡ input_limits.bytes → 0 < length more → outcome w (ended_lines front) ≡ Ok edges → input_of input_limits w (front ++ more) ≡ Err too_long
cut_short w front more edges full some e =
    past_limit w (front ++ more) (omega (arith, length-append front more)) ∙ ap (λ l. result_cut_short (outcome w (ended_lines l))) (take_at front more input_limits.bytes full) ∙ ap result_cut_short e

-- ---- readings

-- these bytes were taken before this fault was the answer: the vertices weren't counted, and no other fault was met before
-- one of the source
pub record IsFaultAfter (w : Bool) (taken : List ℕ) (fault : EdgeFault) : Type 0 where
  pub early : fault ≢ TooManyVertices
  pub met : fault ≡ ReadFault → HasNoFault w taken

same_fault : (fault what : EdgeFault) (result : Result EdgeList EdgeFault) → result ≡ Err fault → result ≡ Err what → fault ≡ what
same_fault fault what result is e = cc (is, e)

pub reading_of_fault : (w : Bool) (left rest : Option (List ℕ)) (taken : List ℕ) (fault : EdgeFault) → IsFaultAfter w taken fault → Consumes left rest taken → ((more : List ℕ) → Says (Err fault) (input_of input_limits w (taken ++ more))) →
    IsReadingOf w left rest (Err fault)
reading_of_fault w None rest taken fault after lost says =
    record { bytes = taken ++ []; told = tt; taken = taken; lost = lost; said = says []; ended = λ h. cc; counted = λ e. absurd (after.early (same_fault fault TooManyVertices (Err fault) refl e)); met = λ e. after.met (same_fault fault ReadFault (Err fault) refl e) }
reading_of_fault w (Some xs) None taken fault after lost says = absurd lost
reading_of_fault w (Some xs) (Some ys) taken fault after lost says = record {
  bytes = xs;
  told = refl;
  taken = taken;
  lost = lost;
  said = subst (λ l. Says (Err fault) (input_of input_limits w l)) (sym lost) (says ys);
  ended = λ h. cc;
  counted = λ e. absurd (after.early (same_fault fault TooManyVertices (Err fault) refl e));
  met = λ e. after.met (same_fault fault ReadFault (Err fault) refl e);
}

-- at the end of the input
pub reading_at_end : (w : Bool) (left rest : Option (List ℕ)) (taken : List ℕ) (result : Result EdgeList EdgeFault) → (result ≡ Err ReadFault → ⊥) → Consumes left rest taken → IsAtEnd rest → Says result (input_of input_limits w taken) → IsReadingOf w left rest result
reading_at_end w None rest taken result own lost end says =
    record { bytes = taken; told = tt; taken = taken; lost = lost; said = says; ended = λ h. end; counted = λ e. end; met = λ e. absurd (own e) }
reading_at_end w (Some xs) None taken result own lost end says = absurd lost
reading_at_end w (Some xs) (Some ys) taken result own lost end says = record {
  bytes = taken;
  told = lost ∙ ap (λ l. taken ++ l) end ∙ append-nil taken;
  taken = taken;
  lost = lost;
  said = says;
  ended = λ h. end;
  counted = λ e. end;
  met = λ e. absurd (own e);
}

-- ---- while the input is read

-- all bytes so far are read
pub record Progress (w : Bool) (left rest : Option (List ℕ)) (read : ReadLines) (scan : Scan) (total : ℕ) : Type 0 where
  pub text : List ℕ
  pub size : length text ≡ total
  pub short : total ≤ input_limits.bytes
  pub lost : Consumes left rest text
  pub fed : IsFed text read scan
  pub same : read.weighted ≡ w

-- no fault was met so far
no_fault : (w : Bool) (left rest : Option (List ℕ)) (read : ReadLines) (scan : Scan) (total : ℕ) (p : Progress w left rest read scan total) → HasNoFault w p.text
no_fault w left rest read scan total p = record {
  short = omega (arith, p.size, p.short);
  edges = p.fed.0.edges;
  said = ap (λ v. outcome v (ended_lines p.text)) (sym p.same) ∙ p.fed.0.said;
}

-- a source that fails says nothing of the input
pub progress_fails : (w : Bool) (left rest new : Option (List ℕ)) (read : ReadLines) (scan : Scan) (total : ℕ) → Progress w left rest read scan total → Keeps rest new → IsReadingOf w left new (Err ReadFault)
progress_fails w left rest new read scan total p kept = reading_of_fault w left new p.text ReadFault (record { early = λ e. cc; met = λ e. no_fault w left rest read scan total p }) (Consumes-kept left rest new p.text p.lost kept) (λ more. tt)

last_line : {T : Type 0} (w : Bool) (left rest : Option (List ℕ)) (text : List ℕ) (new : ReadLines) (result : Result T EdgeFault) → Consumes left rest text → IsAtEnd rest → length text ≤ input_limits.bytes → new.weighted ≡ w →
    Adds (newline_pieces text) new result → ReadsAll w left rest new result
last_line w left rest text new (Ok x) lost end short same adds = record { text = text; lost = lost; ended = end; short = short; lines = adds; same = same }
last_line w left rest text new (Err fault) lost end short same adds =
    let said : Says (Err fault) (outcome w (newline_pieces text)) = subst (λ v. Says (Err fault) (outcome v (newline_pieces text))) same adds.said in
    reading_at_end w left rest text (Err fault) (λ e. adds.own (same_fault fault ReadFault (Err fault) refl e)) lost end (fault_at_end w text fault short (subst (Says (Err fault)) (sym (pieces_say w text 1 input_limits.edges)) said))

-- the last line is added at the end
pub progress_ends : {T : Type 0} (w : Bool) (left rest new : Option (List ℕ)) (read after : ReadLines) (scan : Scan) (total : ℕ) (result : Result T EdgeFault) (p : Progress w left rest read scan total) → Consumes rest new [] → IsAtEnd new →
    after.weighted ≡ read.weighted → Adds (ended_lines p.text ++ open_line p.text ∷ []) after result → ReadsAll w left new after result
progress_ends w left rest new read after scan total result p none end same adds =
    last_line w left new p.text after result (subst (Consumes left new) (append-nil p.text) (Consumes-trans left rest new p.text [] p.lost none)) end (omega (arith, p.size, p.short)) (same ∙ p.same)
    (subst (λ ls. Adds ls after result) (pieces_split p.text) adds)

-- what a piece does to lines that were read so far
abbrev pub PieceFeeds : ReadLines → Scan → List ℕ → ReadLines → Result Scan EdgeFault → Type 0
PieceFeeds read scan piece after result = (text : List ℕ) → IsFed text read scan → length (text ++ piece) < 2 ^ 32 → FeedsOn (text ++ piece) after result

pub few_bytes : (text piece : List ℕ) (total : ℕ) → length text ≡ total → total + length piece ≤ input_limits.bytes → length (text ++ piece) < 2 ^ 32
few_bytes text piece total size room = omega (arith, length-append text piece)

pub progress_goes_on : (w : Bool) (left rest new : Option (List ℕ)) (read after : ReadLines) (scan next : Scan) (total : ℕ) (piece : List ℕ) → Progress w left rest read scan total → Consumes rest new piece →
    total + length piece ≤ input_limits.bytes → after.weighted ≡ read.weighted → PieceFeeds read scan piece after (Ok next) → Progress w left new after next (total + length piece)
progress_goes_on w left rest new read after scan next total piece p took room same feeds = record {
  text = p.text ++ piece;
  size = omega (arith, length-append p.text piece, p.size);
  short = room;
  lost = Consumes-trans left rest new p.text piece p.lost took;
  fed = feeds p.text p.fed (few_bytes p.text piece total p.size room);
  same = same ∙ p.same;
}

regroup : (a b c d : List ℕ) → (a ++ b) ++ (c ++ d) ≡ (a ++ (b ++ c)) ++ d
regroup a b c d = simp append_assoc

pub progress_faulty : (w : Bool) (left rest new : Option (List ℕ)) (read after : ReadLines) (scan : Scan) (total : ℕ) (piece more took : List ℕ) (fault : EdgeFault) → Progress w left rest read scan total → Consumes rest new took →
    took ≡ piece ++ more → total + length piece ≤ input_limits.bytes → after.weighted ≡ read.weighted → PieceFeeds read scan piece after (Err fault) → IsReadingOf w left new (Err fault)
progress_faulty w left rest new read after scan total piece more took fault p lost is room same feeds =
    let has : IsLineFault after.weighted (ended_lines (p.text ++ piece)) fault = feeds p.text p.fed (few_bytes p.text piece total p.size room) in
    let short : length (p.text ++ piece) ≤ input_limits.bytes = omega (arith, length-append p.text piece, p.size) in
    let own : IsLineFault w (ended_lines (p.text ++ piece)) fault = subst (λ v. IsLineFault v (ended_lines (p.text ++ piece)) fault) (same ∙ p.same) has in
    reading_of_fault w left new (p.text ++ (piece ++ more)) fault (record { early = own.early; met = λ e. absurd (own.own e) }) (subst (λ l. Consumes left new (p.text ++ l)) is (Consumes-trans left rest new p.text took p.lost lost))
    (λ others. subst (λ l. Says (Err fault) (input_of input_limits w l)) (regroup p.text piece more others) (early w (p.text ++ piece) (more ++ others) fault short own))

pub progress_long : (w : Bool) (left rest new : Option (List ℕ)) (read after : ReadLines) (scan next : Scan) (total : ℕ) (piece more took : List ℕ) → Progress w left rest read scan total → Consumes rest new took →
    took ≡ piece ++ more → 0 < length more → total + length piece ≡ input_limits.bytes → after.weighted ≡ read.weighted → PieceFeeds read scan piece after (Ok next) → IsReadingOf w left new (Err TooLong)
progress_long w left rest new read after scan next total piece more took p lost is some room same feeds =
    let front : List ℕ = p.text ++ piece in
    let full : length front ≡ input_limits.bytes = omega (arith, length-append p.text piece, p.size) in
    let lines : AreRead (ended_lines front) after = (feeds p.text p.fed (few_bytes p.text piece total p.size (omega (arith, room)))).0 in
    let said : outcome w (ended_lines front) ≡ Ok lines.edges = ap (λ v. outcome v (ended_lines front)) (sym (same ∙ p.same)) ∙ lines.said in
    reading_of_fault w left new (p.text ++ (piece ++ more)) TooLong (record { early = λ e. cc; met = λ e. cc }) (subst (λ l. Consumes left new (p.text ++ l)) is (Consumes-trans left rest new p.text took p.lost lost))
    (λ others. let on : 0 < length (more ++ others) = omega (arith, length-append more others) in
    subst (λ l. input_of input_limits w l ≡ Err too_long) (regroup p.text piece more others) (cut_short w front (more ++ others) lines.edges full on said))

-- the first bytes of the space, and of those the first again
pub front_taken : (space : List ℕ) (room count : ℕ) → room ≤ count → take count space ≡ take room space ++ drop room (take count space)
front_taken space room count h = sym (take-append-drop room (take count space)) ∙ ap (λ l. l ++ drop room (take count space)) (take-take room count space h)

pub more_left : (space : List ℕ) (room count : ℕ) → room < count → count ≤ length space → 0 < length (drop room (take count space))
more_left space room count h inside = omega (arith, length-drop room (take count space), length-take-le count space inside)

-- ---- a fault of the source is none of a line

pub line_is_no_read_fault : {T : Type 0} (lines : List (List ℕ)) (read : ReadLines) (result : Result T EdgeFault) → Adds lines read result → result ≡ Err ReadFault → ⊥
line_is_no_read_fault lines read (Ok x) adds e = cc
line_is_no_read_fault lines read (Err fault) adds e = adds.own (let same : fault ≡ ReadFault = cc in same)

pub line_counts_nothing : {T : Type 0} (lines : List (List ℕ)) (read : ReadLines) (result : Result T EdgeFault) → Adds lines read result → result ≡ Err TooManyVertices → ⊥
line_counts_nothing lines read (Ok x) adds e = cc
line_counts_nothing lines read (Err fault) adds e = adds.early (let same : fault ≡ TooManyVertices = cc in same)

-- ---- the whole reading

pub both_ends : (lines : List (List ℕ)) (read : ReadLines) → AreRead lines read → (length read.ends.items ≡ 2 * length read.weights.items) × (length read.weights.items ≤ MOST_EDGES)
both_ends lines read a =
    let count : length read.weights.items ≡ length a.edges = ap length a.weights ∙ length-map a.edges (λ e. e.weight) in
    (omega (arith, ap length a.ends, ends_length a.edges, count), omega (arith, a.few, count))

-- all lines are read, and say this
pub reading_is : (w : Bool) (left rest : Option (List ℕ)) (read : ReadLines) (result : Result EdgeList EdgeFault) → (result ≡ Err ReadFault → ⊥) → AreAllRead w left rest read →
    ((edges : List IdEdge) → read.ends.items ≡ ends_of edges → read.weights.items ≡ map (λ e. e.weight) edges → Says result (result_at_end input_limits.vertices (Ok edges))) → IsReadingOf w left rest result
reading_is w left rest read result own a says =
    let said : outcome w (lines_of a.text) ≡ Ok a.lines.edges = pieces_say w a.text 1 input_limits.edges ∙ ap (λ v. outcome v (newline_pieces a.text)) (sym a.same) ∙ a.lines.said in
    let whole : input_of input_limits w a.text ≡ result_at_end input_limits.vertices (Ok a.lines.edges) = within_limit w a.text a.short ∙ ap (result_at_end input_limits.vertices) said in
    reading_at_end w left rest a.text result own a.lost a.ended (subst (Says result) (sym whole) (says a.lines.edges a.lines.ends a.lines.weights))

-- want of memory says nothing
pub reading_wants : (w : Bool) (left : Option (List ℕ)) → IsReadingOf w left left (Err Memory)
reading_wants w left = reading_of_fault w left left [] Memory (record { early = λ e. cc; met = λ e. cc }) (Consumes-nil left) (λ more. tt)
