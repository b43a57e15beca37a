-- Headers, and what no frame begins with.
use Rattle.std.proofs.Common.{◌≡◌, ℕ, zero, suc, ◌+◌, ◌*◌, ◌^◌, ◌<◌, ◌≤◌, true, false, leb, List, [], ◌∷◌, ◌++◌, length, take, drop, get_or, length-append, refl, sym, ap, ◌∙◌, inl, inr, arith}
use Rattle.std.specs.Prelude.{◌&&◌}
use Rattle.std.proofs.lemmas.Bool.{le-leb, eqb-true, and_parts, and_from, false≢true}
use Rattle.std.proofs.lemmas.List.{take_at, take-append-le, drop-take, get_or-take, length-take-le}
use Rattle.std.proofs.lemmas.Nat.{be_bytes_4, from_be_bytes-to_be_bytes_4}
use Rattle.px_base.specs.declared.wire.Order.TheVariants.{Step, Report}
use Rattle.px_base.specs.declared.wire.Answer.TheVariants.{Stepped, Reported}
use Rattle.px_base.specs.declared.frame.Frame.{Frame}
use Rattle.px_base.specs.declared.frame.Frame.TheVariants as frame
use Rattle.px_base.specs.Frames.{four_bytes, kind_of, body_of, spelling}
use Rattle.px_base.specs.FrameFits.{FrameFits, Spells, word_at, is_right_header, IsTorn}
use Rattle.px_frames.specs.Decodings.{IsShort}
use Rattle.frame_bodies.proofs.Lengths.{body_small}

pub kind_small : (f : Frame) → (1 ≤ kind_of f) × (kind_of f ≤ 10)
kind_small (frame.Setup s) = (omega arith, omega arith)
kind_small (frame.Starts xs) = (omega arith, omega arith)
kind_small (frame.Mirrors us) = (omega arith, omega arith)
kind_small (frame.Boundary xs) = (omega arith, omega arith)
kind_small (frame.Reads ts) = (omega arith, omega arith)
kind_small frame.Ready = (omega arith, omega arith)
kind_small (frame.Order (Step e r us)) = (omega arith, omega arith)
kind_small (frame.Order (Report e)) = (omega arith, omega arith)
kind_small (frame.Answer (Stepped e r c us)) = (omega arith, omega arith)
kind_small (frame.Answer (Reported e xs)) = (omega arith, omega arith)

horner : (a b c d n : ℕ) → a * 16777216 + b * 65536 + c * 256 + d ≡ n → ((a * 256 + b) * 256 + c) * 256 + d ≡ n
horner a b c d n e = omega arith

pub word_of_spelling : (f : Frame) (more : List ℕ) → FrameFits f → word_at (spelling f ++ more) 4 ≡ length (body_of f)
word_of_spelling f more fits =
    let small : length (body_of f) < 2 ^ 32 = omega (arith, body_small f fits) in
    horner _ _ _ _ (length (body_of f)) (from_be_bytes-to_be_bytes_4 (length (body_of f)) small)

header_from : (k w : ℕ) → 1 ≤ k → k ≤ 10 → w ≤ 2 ^ 26 → (leb 1 k && leb k 10 && true && leb w (2 ^ 26)) ≡ true
header_from k w h i j =
    and_from _ _ (and_from _ _ (and_from _ _ (le-leb 1 k h) (le-leb k 10 i)) refl) (le-leb w (2 ^ 26) j)

pub right_header_of : (f : Frame) (more : List ℕ) → FrameFits f → is_right_header (spelling f ++ more) ≡ true
right_header_of f more fits =
    let kinds = kind_small f in
    let word = word_of_spelling f more fits in
    let small : word_at (spelling f ++ more) 4 ≤ 2 ^ 26 = omega (arith, body_small f fits) in
    header_from (kind_of f) (word_at (spelling f ++ more) 4) kinds.0 kinds.1 small

-- less than a whole frame begins with none
pub none_if_short : (rest : List ℕ) → IsShort rest → (f : Frame) (more : List ℕ) → FrameFits f → rest ≡ spelling f ++ more → ⊥
none_if_short rest (inl h) f more fits e =
    let long : length rest ≡ length (spelling f ++ more) = ap length e in
    omega arith
none_if_short rest (inr h) f more fits e =
    let long : length rest ≡ length (spelling f ++ more) = ap length e in
    let word : word_at rest 4 ≡ length (body_of f) = ap (λ (l : List ℕ). word_at l 4) e ∙ word_of_spelling f more fits in
    let less : length rest < 8 + word_at rest 4 = h.1 in
    omega (arith, length-append (body_of f) more)

-- what is torn begins with no frame
none_if_wrong : (rest : List ℕ) → is_right_header rest ≡ false → (f : Frame) (more : List ℕ) → FrameFits f → rest ≡ spelling f ++ more → ⊥
none_if_wrong rest wrong f more fits e =
    let right : is_right_header rest ≡ true = ap is_right_header e ∙ right_header_of f more fits in
    false≢true (sym wrong ∙ right)

none_if_refused : (rest : List ℕ) → ((f : Frame) → Spells f (take (8 + word_at rest 4) rest) → ⊥) → (f : Frame) (more : List ℕ) → FrameFits f → rest ≡ spelling f ++ more → ⊥
none_if_refused rest refused f more fits e =
    let word : word_at rest 4 ≡ length (body_of f) = ap (λ (l : List ℕ). word_at l 4) e ∙ word_of_spelling f more fits in
    let long : length (spelling f) ≡ 8 + length (body_of f) = omega arith in
    refused f (fits, ap (λ (n : ℕ). take (8 + n) rest) word ∙ ap (λ (l : List ℕ). take (8 + length (body_of f)) l) e ∙ take_at (spelling f) more (8 + length (body_of f)) long)

pub none_if_torn : (rest : List ℕ) → IsTorn rest → (f : Frame) (more : List ℕ) → FrameFits f → rest ≡ spelling f ++ more → ⊥
none_if_torn rest h f more fits e =
    elim h.1 [ inl wrong ↦ none_if_wrong rest wrong f more fits e | inr p ↦ none_if_refused rest p.1 f more fits e ]

-- what is torn isn't the beginning of a frame
torn_and_short : (rest : List ℕ) → IsTorn rest → IsShort rest → ⊥
torn_and_short rest torn (inl h) = let long = torn.0 in omega arith
torn_and_short rest torn (inr h) =
    elim torn.1 [
      | inl wrong ↦ false≢true (sym wrong ∙ h.0)
      | inr p ↦ (let within : 8 + word_at rest 4 ≤ length rest = p.0 in let less : length rest < 8 + word_at rest 4 = h.1 in omega arith)
    ]

pub short_not_torn : (rest : List ℕ) → IsShort rest → IsTorn rest → ⊥
short_not_torn rest short torn = torn_and_short rest torn short

-- what is torn stays so, whatever follows
refused_more : (rest more : List ℕ) → 8 + word_at rest 4 ≤ length rest → ((f : Frame) → Spells f (take (8 + word_at rest 4) rest) → ⊥)
    → (f : Frame) → Spells f (take (8 + word_at rest 4) (rest ++ more)) → ⊥
refused_more rest more within refused f spells = refused f (spells.0, sym (take-append-le (8 + word_at rest 4) rest more within) ∙ spells.1)

pub torn_more : (rest more : List ℕ) → IsTorn rest → IsTorn (rest ++ more)
torn_more (b0 ∷ b1 ∷ b2 ∷ b3 ∷ b4 ∷ b5 ∷ b6 ∷ b7 ∷ tail) more h =
    let rest : List ℕ = b0 ∷ b1 ∷ b2 ∷ b3 ∷ b4 ∷ b5 ∷ b6 ∷ b7 ∷ tail in
    let longer : length rest ≤ length (rest ++ more) = omega (arith, length-append rest more) in (
      omega arith,
      elim h.1 [
        | inl wrong ↦ inl wrong
        | inr p ↦ (let within : 8 + word_at rest 4 ≤ length rest = p.0 in inr (omega arith, refused_more rest more p.0 p.1))
      ],
    )
torn_more _ more h = let long = h.0 in absurd (omega arith)

-- the bytes of a header, which are the first of the frame of their kind and the body after them
bytes_of_four : (a b c d : ℕ) → a < 256 → b < 256 → c < 256 → d < 256 → (i : ℕ) → get_or (a ∷ b ∷ c ∷ d ∷ []) i 0 < 256
bytes_of_four a b c d ha hb hc hd zero = ha
bytes_of_four a b c d ha hb hc hd (suc zero) = hb
bytes_of_four a b c d ha hb hc hd (suc (suc zero)) = hc
bytes_of_four a b c d ha hb hc hd (suc (suc (suc zero))) = hd
bytes_of_four a b c d ha hb hc hd (suc (suc (suc (suc n)))) = omega arith

unhorner : (a b c d n : ℕ) → ((a * 256 + b) * 256 + c) * 256 + d ≡ n → n ≡ a * 16777216 + b * 65536 + c * 256 + d
unhorner a b c d n e = omega arith

word_bytes : (a b c d n : ℕ) → a < 256 → b < 256 → c < 256 → d < 256 → ((a * 256 + b) * 256 + c) * 256 + d ≡ n → four_bytes n ≡ a ∷ b ∷ c ∷ d ∷ []
word_bytes a b c d n ha hb hc hd e = be_bytes_4 (a ∷ b ∷ c ∷ d ∷ []) n refl (bytes_of_four a b c d ha hb hc hd) (unhorner a b c d n e)

same_header : (b0 b1 k b3 : ℕ) (word body : List ℕ) (f : Frame) → b0 ≡ 80 → b1 ≡ 1 → kind_of f ≡ k → b3 ≡ 0 → four_bytes (length (body_of f)) ≡ word → body_of f ≡ body
    → b0 ∷ b1 ∷ k ∷ b3 ∷ word ++ body ≡ spelling f
same_header b0 b1 k b3 word body f e0 e1 ek e3 ew eb =
    ap (λ (x : ℕ). x ∷ b1 ∷ k ∷ b3 ∷ word ++ body) e0
    ∙ ap (λ (x : ℕ). 80 ∷ x ∷ k ∷ b3 ∷ word ++ body) e1
    ∙ ap (λ (x : ℕ). 80 ∷ 1 ∷ x ∷ b3 ∷ word ++ body) (sym ek)
    ∙ ap (λ (x : ℕ). 80 ∷ 1 ∷ kind_of f ∷ x ∷ word ++ body) e3
    ∙ ap (λ (x : List ℕ). 80 ∷ 1 ∷ kind_of f ∷ 0 ∷ x ++ body) (sym ew)
    ∙ ap (λ (x : List ℕ). 80 ∷ 1 ∷ kind_of f ∷ 0 ∷ four_bytes (length (body_of f)) ++ x) (sym eb)

-- a right header, and the kind and the body of a frame after it, spell that frame
pub spelled : (bytes : List ℕ) (f : Frame) → 8 ≤ length bytes → ((i : ℕ) → get_or bytes i 0 < 256) → is_right_header bytes ≡ true → 8 + word_at bytes 4 ≤ length bytes
    → kind_of f ≡ get_or bytes 2 0 → body_of f ≡ take (word_at bytes 4) (drop 8 bytes) → take (8 + word_at bytes 4) bytes ≡ spelling f
spelled (b0 ∷ b1 ∷ b2 ∷ b3 ∷ b4 ∷ b5 ∷ b6 ∷ b7 ∷ tail) f long small right within kind body =
    let n : ℕ = ((b4 * 256 + b5) * 256 + b6) * 256 + b7 in
    let head = and_parts _ _ right in
    let third = and_parts _ _ head.0 in
    let upper = and_parts _ _ third.0 in
    let lower = and_parts _ _ upper.0 in
    let marks = and_parts _ _ lower.0 in
    let e0 : b0 ≡ 80 = eqb-true b0 80 marks.0 in
    let e1 : b1 ≡ 1 = eqb-true b1 1 marks.1 in
    let e3 : b3 ≡ 0 = eqb-true b3 0 third.1 in
    let room : n ≤ length tail = omega arith in
    let count : length (body_of f) ≡ n = ap length body ∙ length-take-le n tail room in
    let word : four_bytes (length (body_of f)) ≡ b4 ∷ b5 ∷ b6 ∷ b7 ∷ [] =
    word_bytes b4 b5 b6 b7 (length (body_of f)) (small 4) (small 5) (small 6) (small 7) (sym count) in
    let eight : 8 + n ≡ suc (suc (suc (suc (suc (suc (suc (suc n))))))) = omega arith in
    ap (λ (m : ℕ). take m (b0 ∷ b1 ∷ b2 ∷ b3 ∷ b4 ∷ b5 ∷ b6 ∷ b7 ∷ tail)) eight
    ∙ same_header b0 b1 b2 b3 (b4 ∷ b5 ∷ b6 ∷ b7 ∷ []) (take n tail) f e0 e1 kind e3 word body
spelled _ f long small right within kind body = absurd (omega arith)

-- a frame that is spelled there has that kind and that body
pub kind_spelled : (bytes : List ℕ) (f : Frame) → take (8 + word_at bytes 4) bytes ≡ spelling f → kind_of f ≡ get_or bytes 2 0
kind_spelled bytes f e = sym (ap (λ (l : List ℕ). get_or l 2 0) e) ∙ get_or-take (8 + word_at bytes 4) bytes 2 0 (omega arith)

pub body_spelled : (bytes : List ℕ) (f : Frame) → take (8 + word_at bytes 4) bytes ≡ spelling f → body_of f ≡ take (word_at bytes 4) (drop 8 bytes)
body_spelled bytes f e = sym (ap (λ (l : List ℕ). drop 8 l) e) ∙ drop-take 8 (word_at bytes 4) bytes
