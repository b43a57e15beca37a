-- Where no frame has a kind and a body.
use Rattle.std.proofs.Common.{◌≡◌, ℕ, zero, suc, ◌+◌, ◌*◌, ◌/◌, ◌%◌, List, ◌∷◌, ◌++◌, length, drop, get_or, refl, sym, ap, ◌∙◌, subst, arith}
use Rattle.std.specs.Prelude.{flat_map, None, Some}
use Rattle.px_base.specs.declared.wire.Update.{Update}
use Rattle.px_base.specs.declared.frame.Triple.{Triple}
use Rattle.px_base.specs.declared.frame.Frame.{Frame}
use Rattle.px_base.specs.Frames.{four_bytes, eight_bytes, pair_bytes, triple_bytes, changed_code, kind_of, body_of}
use Rattle.px_base.specs.FrameFits.{FrameFits}
use Rattle.frame_bodies.specs.Widths.{HasRoom}
use Rattle.frame_bodies.specs.Bodies.{IsCandidate, IsBody}
use Rattle.frame_bodies.proofs.Lengths.{length_values, length_pairs, length_vertices, length_triples}
use Rattle.frame_bodies.proofs.Rooms.{room}
use Rattle.frame_bodies.proofs.Unspelled.{four_at, eight_at, values_from, pairs_from, vertices_from, triples_from, changed_from, frame_from, back}

-- one kind and one body are one frame
pub same_frame : (f g : Frame) → FrameFits f → FrameFits g → kind_of f ≡ kind_of g → body_of f ≡ body_of g → f ≡ g
same_frame f g hf hg kinds bodies =
    sym (back f (room f hf)) ∙ ap (λ (k : ℕ). frame_from k (body_of f)) kinds ∙ ap (λ (b : List ℕ). frame_from (kind_of g) b) bodies ∙ back g (room g hg)

-- no frame, where the one that could be isn't
pub none_by : (kind : ℕ) (body : List ℕ) → (HasRoom (frame_from kind body) → body_of (frame_from kind body) ≡ body → ⊥) → IsCandidate kind body None
none_by kind body isnt f h k b =
    let e : f ≡ frame_from kind body =
    sym (back f h) ∙ ap (λ (n : ℕ). frame_from n (body_of f)) k ∙ ap (λ (l : List ℕ). frame_from kind l) b in
    isnt (subst HasRoom e h) (ap body_of (sym e) ∙ b)

length_values_from : (n : ℕ) (b : List ℕ) → length (values_from n b) ≡ n
length_values_from zero b = refl
length_values_from (suc n) b = ap suc (length_values_from n (drop 8 b))

length_pairs_from : (n : ℕ) (b : List ℕ) → length (pairs_from n b) ≡ n
length_pairs_from zero b = refl
length_pairs_from (suc n) b = ap suc (length_pairs_from n (drop 12 b))

-- ---- loads

pub no_starts : (body : List ℕ) → (length body % 8 ≡ 0 → ⊥) → IsCandidate 2 body None
no_starts body odd = none_by 2 body (λ h e.
    let xs : List ℕ = values_from (length body / 8) body in
    let long : length (flat_map eight_bytes xs) ≡ length body = ap length e in
    odd (omega (arith, length_values xs, long)))

pub no_mirrors : (body : List ℕ) → (length body % 12 ≡ 0 → ⊥) → IsCandidate 3 body None
no_mirrors body odd = none_by 3 body (λ h e.
    let us : List Update = pairs_from (length body / 12) body in
    let long : length (flat_map pair_bytes us) ≡ length body = ap length e in
    odd (omega (arith, length_pairs us, long)))

pub no_boundary : (body : List ℕ) → (length body % 4 ≡ 0 → ⊥) → IsCandidate 4 body None
no_boundary body odd = none_by 4 body (λ h e.
    let xs : List ℕ = vertices_from (length body / 4) body in
    let long : length (flat_map four_bytes xs) ≡ length body = ap length e in
    odd (omega (arith, length_vertices xs, long)))

pub no_reads : (body : List ℕ) → (length body % 12 ≡ 0 → ⊥) → IsCandidate 5 body None
no_reads body odd = none_by 5 body (λ h e.
    let ts : List Triple = triples_from (length body / 12) body in
    let long : length (flat_map triple_bytes ts) ≡ length body = ap length e in
    odd (omega (arith, length_triples ts, long)))

-- ---- orders and answers

pub no_step : (body : List ℕ) → (length body ≡ 16 + 12 * four_at 12 body → ⊥) → IsCandidate 7 body None
no_step body other = none_by 7 body (λ h e.
    let us : List Update = pairs_from (four_at 12 body) (drop 16 body) in
    let count : length us ≡ four_at 12 body = length_pairs_from (four_at 12 body) (drop 16 body) in
    let long : length (four_bytes (four_at 0 body) ++ eight_bytes (eight_at 4 body) ++ four_bytes (length us) ++ flat_map pair_bytes us) ≡ length body = ap length e in
    other (omega (arith, length_pairs us, long, count)))

pub no_stepped : (body : List ℕ) → (length body ≡ 17 + 12 * four_at 13 body → ⊥) → IsCandidate 9 body None
no_stepped body other = none_by 9 body (λ h e.
    let us : List Update = pairs_from (four_at 13 body) (drop 17 body) in
    let count : length us ≡ four_at 13 body = length_pairs_from (four_at 13 body) (drop 17 body) in
    let long : length (four_bytes (four_at 0 body) ++ eight_bytes (eight_at 4 body) ++ changed_code (changed_from (get_or body 12 0)) ∷ four_bytes (length us) ++ flat_map pair_bytes us) ≡ length body = ap length e in
    other (omega (arith, length_pairs us, long, count)))

pub no_reported : (body : List ℕ) → (length body ≡ 8 + 8 * four_at 4 body → ⊥) → IsCandidate 10 body None
no_reported body other = none_by 10 body (λ h e.
    let xs : List ℕ = values_from (four_at 4 body) (drop 8 body) in
    let count : length xs ≡ four_at 4 body = length_values_from (four_at 4 body) (drop 8 body) in
    let long : length (four_bytes (four_at 0 body) ++ four_bytes (length xs) ++ flat_map eight_bytes xs) ≡ length body = ap length e in
    other (omega (arith, length_values xs, long, count)))

-- ---- whether it fits

-- a frame that doesn't fit is the only one of its kind and body
pub none_fits : (kind : ℕ) (body : List ℕ) (f : Frame) → IsCandidate kind body (Some f) → (FrameFits f → ⊥) → IsBody kind body None
none_fits kind body f h unfit g fits k b =
    let here : f ≡ frame_from kind body =
    sym (back f h.0) ∙ ap (λ (n : ℕ). frame_from n (body_of f)) h.1 ∙ ap (λ (l : List ℕ). frame_from kind l) h.2 in
    let there : g ≡ frame_from kind body =
    sym (back g (room g fits)) ∙ ap (λ (n : ℕ). frame_from n (body_of g)) k ∙ ap (λ (l : List ℕ). frame_from kind l) b in
    unfit (subst FrameFits (there ∙ sym here) fits)
