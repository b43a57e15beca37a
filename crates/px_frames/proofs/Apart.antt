-- No frame's spelling begins another's.
use Rattle.std.proofs.Common.{◌≡◌, ℕ, ◌^◌, ◌<◌, List, [], ◌∷◌, ◌++◌, length, take, drop, get_or, append_assoc, sym, ap, refl, ◌∙◌, arith}
use Rattle.std.specs.Prelude.{flat_map, All}
use Rattle.std.specs.List.{AllByRecursion}
use Rattle.std.specs.Int.{w32, from_be_bytes}
use Rattle.std.proofs.lemmas.List.{take_at, drop_at}
use Rattle.std.proofs.lemmas.List.Elements.{recursion_from_All}
use Rattle.std.proofs.lemmas.Nat.{from_be_bytes-to_be_bytes_4}
use Rattle.px_base.specs.declared.frame.Frame.{Frame}
use Rattle.px_base.specs.Frames.{kind_of, body_of, spelling}
use Rattle.px_base.specs.FrameFits.{FrameFits, Spells, AreFramesOf}
use Rattle.frame_bodies.proofs.Candidates.{same_frame}
use Rattle.frame_bodies.proofs.Lengths.{body_small}

pub one_spelling : (f : Frame) (a b : List ℕ) → Spells f a → Spells f b → a ≡ b
one_spelling f a b h k = h.1 ∙ sym k.1

pub spellings_apart : (f g : Frame) (xs ys : List ℕ) → FrameFits f → FrameFits g → spelling f ++ xs ≡ spelling g ++ ys → (f ≡ g) × (xs ≡ ys)
spellings_apart f g xs ys hf hg e =
    let kinds : kind_of f ≡ kind_of g = ap (λ (l : List ℕ). get_or l 2 0) e in
    let small : length (body_of f) < 2 ^ 32 = omega (arith, body_small f hf) in
    let small' : length (body_of g) < 2 ^ 32 = omega (arith, body_small g hg) in
    let counts : length (body_of f) ≡ length (body_of g) =
    sym (from_be_bytes-to_be_bytes_4 (length (body_of f)) small) ∙ ap (λ (l : List ℕ). from_be_bytes w32 (drop 4 l)) e ∙ from_be_bytes-to_be_bytes_4 (length (body_of g)) small' in
    let tails : body_of f ++ xs ≡ body_of g ++ ys = ap (λ (l : List ℕ). drop 8 l) e in
    let bodies : body_of f ≡ body_of g =
    sym (take_at (body_of f) xs (length (body_of f)) refl) ∙ ap (λ (l : List ℕ). take (length (body_of f)) l) tails ∙ take_at (body_of g) ys (length (body_of f)) (sym counts) in
    let rests : xs ≡ ys =
    sym (drop_at (body_of f) xs (length (body_of f)) refl) ∙ ap (λ (l : List ℕ). drop (length (body_of f)) l) tails ∙ drop_at (body_of g) ys (length (body_of f)) (sym counts) in
    (same_frame f g hf hg kinds bodies, rests)

-- no frame stands at the front
abbrev pub HasNone : List ℕ → Type 0
HasNone rest = (f : Frame) (more : List ℕ) → FrameFits f → rest ≡ spelling f ++ more → ⊥

readings : (fs gs : List Frame) (r s : List ℕ) → AllByRecursion FrameFits fs → AllByRecursion FrameFits gs → HasNone r → HasNone s
    → flat_map spelling fs ++ r ≡ flat_map spelling gs ++ s → (fs ≡ gs) × (r ≡ s)
readings [] [] r s hf hg nr ns e = (refl, e)
readings [] (g ∷ gs) r s hf hg nr ns e = absurd (nr g (flat_map spelling gs ++ s) hg.0 (e ∙ append_assoc (spelling g) (flat_map spelling gs) s))
readings (f ∷ fs) [] r s hf hg nr ns e = absurd (ns f (flat_map spelling fs ++ r) hf.0 (sym e ∙ append_assoc (spelling f) (flat_map spelling fs) r))
readings (f ∷ fs) (g ∷ gs) r s hf hg nr ns e =
    let first = spellings_apart f g (flat_map spelling fs ++ r) (flat_map spelling gs ++ s) hf.0 hg.0
    (sym (append_assoc (spelling f) (flat_map spelling fs) r) ∙ e ∙ append_assoc (spelling g) (flat_map spelling gs) s) in
    let others = readings fs gs r s hf.1 hg.1 nr ns first.1 in
    (ap (λ (x : Frame). x ∷ fs) first.0 ∙ ap (λ (xs : List Frame). g ∷ xs) others.0, others.1)

-- bytes begin with one list of frames
pub one_reading : (bytes rest more : List ℕ) (fs gs : List Frame) → AreFramesOf bytes fs rest → AreFramesOf bytes gs more → (fs ≡ gs) × (rest ≡ more)
one_reading bytes rest more fs gs a b =
    readings fs gs rest more (recursion_from_All FrameFits fs a.fit) (recursion_from_All FrameFits gs b.fit) a.no_more b.no_more (sym a.whole ∙ b.whole)

longest_by : (fs gs : List Frame) (r s : List ℕ) → AllByRecursion FrameFits fs → AllByRecursion FrameFits gs → HasNone r
    → flat_map spelling fs ++ r ≡ flat_map spelling gs ++ s → (others : List Frame) × (fs ≡ gs ++ others)
longest_by fs [] r s hf hg none e = (fs, refl)
longest_by [] (g ∷ gs) r s hf hg none e = absurd (none g (flat_map spelling gs ++ s) hg.0 (e ∙ append_assoc (spelling g) (flat_map spelling gs) s))
longest_by (f ∷ fs) (g ∷ gs) r s hf hg none e =
    let first = spellings_apart f g (flat_map spelling fs ++ r) (flat_map spelling gs ++ s) hf.0 hg.0
    (sym (append_assoc (spelling f) (flat_map spelling fs) r) ∙ e ∙ append_assoc (spelling g) (flat_map spelling gs) s) in
    let others = longest_by fs gs r s hf.1 hg.1 none first.1 in
    (others.0, ap (λ (x : Frame). x ∷ fs) first.0 ∙ ap (λ (xs : List Frame). g ∷ xs) others.1)

-- all other frames that bytes begin with are the first of these
pub longest : (bytes rest more : List ℕ) (fs gs : List Frame) → AreFramesOf bytes fs rest → All FrameFits gs → bytes ≡ flat_map spelling gs ++ more
    → (others : List Frame) × (fs ≡ gs ++ others)
longest bytes rest more fs gs a fit e =
    longest_by fs gs rest more (recursion_from_All FrameFits fs a.fit) (recursion_from_All FrameFits gs fit) a.no_more (sym a.whole ∙ e)
