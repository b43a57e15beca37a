-- What a decoder keeps, from one piece to the next.
use Rattle.std.proofs.Common.{◌≡◌, ℕ, ◌+◌, ◌^◌, ◌≤◌, min, Bool, true, false, List, [], ◌∷◌, ◌++◌, length, take, drop, append_assoc, length-append, refl, sym, ap, ◌∙◌, subst, arith}
use Rattle.std.specs.Prelude.{flat_map, slice_get, All}
use Rattle.std.proofs.lemmas.Bool.{false≢true}
use Rattle.std.proofs.lemmas.List.{take-append-drop, length-take-le, length_push}
use Rattle.std.proofs.lemmas.List.Concat.{flat_map-append}
use Rattle.std.proofs.lemmas.List.Elements.{All-append}
use Rattle.px_base.specs.declared.frame.Frame.{Frame}
use Rattle.px_base.specs.Frames.{spelling}
use Rattle.px_base.specs.FrameFits.{FrameFits, AreFramesOf, IsTorn}
use Rattle.px_frames.specs.Decodings.{Fed, fed_more, took_more, counted_bytes, IsSound, IsTornAt, IsOldest, IsCount, IsShort, Keeps, Scans}
use Rattle.px_frames.proofs.Apart.{one_reading, HasNone}
use Rattle.px_frames.proofs.Headers.{none_if_short, none_if_torn, short_not_torn, torn_more}

not_torn_if_empty : IsTorn [] → ⊥
not_torn_if_empty h = let long : 8 ≤ 0 = h.0 in omega arith

-- the rest after a scan begins with no frame
none_after : (torn : Bool) (rest : List ℕ) → (torn ≡ true → IsTorn rest) → (torn ≡ false → IsShort rest) → HasNone rest
none_after true rest broken short = none_if_torn rest (broken refl)
none_after false rest broken short = none_if_short rest (short refl)

-- the bytes after a piece, when their frames were read
whole_after : (bytes pending piece front rest : List ℕ) (known frames : List Frame) → bytes ≡ flat_map spelling known ++ pending → front ++ rest ≡ pending ++ piece → front ≡ flat_map spelling frames
    → bytes ++ piece ≡ flat_map spelling (known ++ frames) ++ rest
whole_after bytes pending piece front rest known frames e split f =
    ap (λ (l : List ℕ). l ++ piece) e
    ∙ append_assoc (flat_map spelling known) pending piece
    ∙ ap (λ (l : List ℕ). flat_map spelling known ++ l) (sym split)
    ∙ ap (λ (l : List ℕ). flat_map spelling known ++ (l ++ rest)) f
    ∙ sym (append_assoc (flat_map spelling known) (flat_map spelling frames) rest)
    ∙ ap (λ (l : List ℕ). l ++ rest) (sym (flat_map-append spelling known frames))

count_after : (known frames : List Frame) (whole at : ℕ) → whole ≡ counted_bytes known → length (flat_map spelling frames) ≡ at → min (whole + at) (2 ^ 62) ≡ counted_bytes (known ++ frames)
count_after known frames whole at e f =
    let joined : length (flat_map spelling (known ++ frames)) ≡ length (flat_map spelling known) + length (flat_map spelling frames) =
    ap length (flat_map-append spelling known frames) ∙ length-append (flat_map spelling known) (flat_map spelling frames) in
    omega (arith, e, f, joined)

abbrev bytes_after : Fed → List ℕ → List ℕ → List Frame → Type 0
bytes_after fed piece rest frames = fed.bytes ++ piece ≡ flat_map spelling frames ++ rest

pub keeps_more : (fed : Fed) (pending : List ℕ) (waiting : List Frame) (whole : ℕ) → Keeps fed pending waiting whole false
    → (piece : List ℕ) (new : List Frame) (at : ℕ) (torn : Bool) → Scans (pending ++ piece) waiting new at torn
    → Keeps (fed_more fed piece) (drop at (pending ++ piece)) new (min (whole + at) (2 ^ 62)) torn
keeps_more fed pending waiting whole h piece new at torn s =
    let rest : List ℕ = drop at (pending ++ piece) in
    let here : h.rest ≡ pending = (h.sound refl).0 in
    let bytes : fed.bytes ≡ flat_map spelling (h.taken ++ waiting) ++ pending = h.are.whole ∙ ap (λ (l : List ℕ). flat_map spelling (h.taken ++ waiting) ++ l) here in
    let joined : h.taken ++ new ≡ (h.taken ++ waiting) ++ s.to.frames = ap (λ (l : List Frame). h.taken ++ l) s.to.added ∙ sym (append_assoc h.taken waiting s.to.frames) in
    let long : length (flat_map spelling s.to.frames) ≡ at = sym (ap length s.to.front) ∙ length-take-le at (pending ++ piece) s.to.within in
    let all : bytes_after fed piece rest ((h.taken ++ waiting) ++ s.to.frames) =
    whole_after fed.bytes pending piece (take at (pending ++ piece)) rest (h.taken ++ waiting) s.to.frames bytes (take-append-drop at (pending ++ piece)) s.to.front in
    let none : HasNone rest = none_after torn rest s.broken s.short in
    record {
      taken = h.taken;
      rest = rest;
      took = h.took;
      are = record {
        fit = subst (λ (l : List Frame). All FrameFits l) (sym joined) (All-append FrameFits (h.taken ++ waiting) s.to.frames h.are.fit s.to.fit);
        whole = subst (λ (l : List Frame). bytes_after fed piece rest l) (sym joined) all;
        no_more = none;
      };
      count = count_after (h.taken ++ waiting) s.to.frames whole at h.count long ∙ ap counted_bytes (sym joined);
      sound = λ e. (refl, short_not_torn rest (s.short e));
      broken = s.broken;
    }

-- a torn rest stays torn
pub keeps_torn : (fed : Fed) (pending : List ℕ) (waiting : List Frame) (whole : ℕ) → Keeps fed pending waiting whole true → (piece : List ℕ) → Keeps (fed_more fed piece) pending waiting whole true
keeps_torn fed pending waiting whole h piece =
    let torn : IsTorn (h.rest ++ piece) = torn_more h.rest piece (h.broken refl) in
    record {
      taken = h.taken;
      rest = h.rest ++ piece;
      took = h.took;
      are = record {
        fit = h.are.fit;
        whole = ap (λ (l : List ℕ). l ++ piece) h.are.whole ∙ append_assoc (flat_map spelling (h.taken ++ waiting)) h.rest piece;
        no_more = none_if_torn (h.rest ++ piece) torn;
      };
      count = h.count;
      sound = λ e. absurd (false≢true (sym e));
      broken = λ e. torn;
    }

-- of a torn rest no bytes are kept
pub keeps_no_bytes : (fed : Fed) (pending : List ℕ) (waiting : List Frame) (whole : ℕ) (torn : Bool) → torn ≡ true → Keeps fed pending waiting whole torn → Keeps fed [] waiting whole torn
keeps_no_bytes fed pending waiting whole torn is h = record {
  taken = h.taken;
  rest = h.rest;
  took = h.took;
  are = h.are;
  count = h.count;
  sound = λ e. absurd (false≢true (sym e ∙ is));
  broken = h.broken;
}

-- the oldest frame is taken
pub keeps_rest : (fed : Fed) (pending : List ℕ) (f : Frame) (waiting : List Frame) (whole : ℕ) (torn : Bool) → Keeps fed pending (f ∷ waiting) whole torn → Keeps (took_more fed) pending waiting whole torn
keeps_rest fed pending f waiting whole torn h =
    let same : (h.taken ++ f ∷ []) ++ waiting ≡ h.taken ++ f ∷ waiting = append_assoc h.taken (f ∷ []) waiting in
    record {
      taken = h.taken ++ f ∷ [];
      rest = h.rest;
      took = ap (λ (n : ℕ). n + 1) h.took ∙ sym (length_push h.taken f);
      are = subst (λ (l : List Frame). AreFramesOf fed.bytes l h.rest) (sym same) h.are;
      count = h.count ∙ ap counted_bytes (sym same);
      sound = h.sound;
      broken = h.broken;
    }

-- ---- what is answered

pub count_of : (fed : Fed) (pending : List ℕ) (waiting : List Frame) (whole : ℕ) (torn : Bool) → Keeps fed pending waiting whole torn → IsCount fed.bytes whole
count_of fed pending waiting whole torn h = record { reading = record { frames = h.taken ++ waiting; rest = h.rest; are = h.are }; is = h.count }

pub sound_of : (fed : Fed) (pending : List ℕ) (waiting : List Frame) (whole : ℕ) → Keeps fed pending waiting whole false → IsSound fed.bytes
sound_of fed pending waiting whole h = record { reading = record { frames = h.taken ++ waiting; rest = h.rest; are = h.are }; sound = (h.sound refl).1 }

pub torn_of : (fed : Fed) (pending : List ℕ) (waiting : List Frame) (whole : ℕ) → Keeps fed pending waiting whole true → IsTornAt fed.bytes whole
torn_of fed pending waiting whole h =
    record { reading = record { frames = h.taken ++ waiting; rest = h.rest; are = h.are }; torn = h.broken refl; place = h.count }

slice_get_after : (taken waiting : List Frame) → slice_get (taken ++ waiting) (length taken) ≡ slice_get waiting 0
slice_get_after [] waiting = refl
slice_get_after (f ∷ taken) waiting = slice_get_after taken waiting

pub oldest_of : (fed : Fed) (pending : List ℕ) (waiting : List Frame) (whole : ℕ) (torn : Bool) → Keeps fed pending waiting whole torn → IsOldest fed (slice_get waiting 0)
oldest_of fed pending waiting whole torn h =
    record {
      reading = record { frames = h.taken ++ waiting; rest = h.rest; are = h.are };
      is = sym (slice_get_after h.taken waiting) ∙ ap (λ (n : ℕ). slice_get (h.taken ++ waiting) n) (sym h.took);
    }

pub not_between_if_torn : (fed : Fed) (pending : List ℕ) (waiting : List Frame) (whole : ℕ) → Keeps fed pending waiting whole true → (frames : List Frame) × AreFramesOf fed.bytes frames [] → ⊥
not_between_if_torn fed pending waiting whole h p =
    let same = one_reading fed.bytes h.rest [] (h.taken ++ waiting) p.0 h.are p.1 in
    not_torn_if_empty (subst IsTorn same.1 (h.broken refl))

pub empty_if_between : (fed : Fed) (pending : List ℕ) (waiting : List Frame) (whole : ℕ) → Keeps fed pending waiting whole false → (frames : List Frame) × AreFramesOf fed.bytes frames [] → pending ≡ []
empty_if_between fed pending waiting whole h p =
    let same = one_reading fed.bytes h.rest [] (h.taken ++ waiting) p.0 h.are p.1 in
    sym (h.sound refl).0 ∙ same.1

-- torn bytes are torn at one place
pub same_place : (fed : Fed) (pending : List ℕ) (waiting : List Frame) (whole : ℕ) (torn : Bool) → torn ≡ true → Keeps fed pending waiting whole torn
    → (at : ℕ) → IsTornAt fed.bytes at → whole ≡ at
same_place fed pending waiting whole torn e h at t =
    let same = one_reading fed.bytes h.rest t.reading.rest (h.taken ++ waiting) t.reading.frames h.are t.reading.are in
    h.count ∙ ap counted_bytes same.0 ∙ sym t.place

pub never_torn : (fed : Fed) (pending : List ℕ) (waiting : List Frame) (whole : ℕ) (torn : Bool) → torn ≡ false → Keeps fed pending waiting whole torn
    → (at : ℕ) → IsTornAt fed.bytes at → ⊥
never_torn fed pending waiting whole torn e h at t =
    let same = one_reading fed.bytes h.rest t.reading.rest (h.taken ++ waiting) t.reading.frames h.are t.reading.are in
    (h.sound e).1 (subst IsTorn (sym same.1) t.torn)
