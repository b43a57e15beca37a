-- What a decoder's calls leave and say.
use Rattle.std.proofs.Common.{◌≡◌, ℕ, ◌+◌, ◌-◌, ◌<◌, ◌≤◌, Bool, true, false, eqb, List, [], ◌∷◌, ◌++◌, length, take, drop, get_or, refl, sym, ap, ◌∙◌, subst, inr, arith}
use Rattle.std.specs.Prelude.{slice_get, Option, Some, None, not, is_some, option_to_list}
use Rattle.std.proofs.lemmas.Bool.{false≢true, eqb-true}
use Rattle.std.proofs.lemmas.List.{nil_from_length}
use Rattle.px_base.specs.declared.frame.Frame.{Frame}
use Rattle.px_base.specs.FrameFits.{AreFramesOf, IsTorn, is_right_header, word_at}
use Rattle.px_frames.specs.Decodings.{Fed, fed_more, took_more, Keeps}
use Rattle.px_frames.specs.Feeds.{Takes, TakesTorn}
use Rattle.px_frames.specs.Fronts.{IsWhole}
use Rattle.frame_bodies.specs.Bodies.{IsBody}
use Rattle.px_frames.proofs.Headers.{spelled, kind_spelled, body_spelled}
use Rattle.px_frames.proofs.Keeping.{keeps_torn, keeps_rest, sound_of, torn_of, empty_if_between}

pub not_and_true : (b : Bool) → b ≡ true → not b ≡ true → ⊥
not_and_true true e k = false≢true k
not_and_true false e k = false≢true e

-- ---- between frames

pub between_is : (fed : Fed) (pending : List ℕ) (waiting : List Frame) (whole : ℕ) → Keeps fed pending waiting whole false → (b : Bool) → b ≡ eqb (length pending) 0
    → (b ≡ true → (frames : List Frame) × AreFramesOf fed.bytes frames []) × ((frames : List Frame) × AreFramesOf fed.bytes frames [] → b ≡ true)
between_is fed pending waiting whole h b e = (
  λ t. (h.taken ++ waiting, subst (λ (l : List ℕ). AreFramesOf fed.bytes (h.taken ++ waiting) l) ((h.sound refl).0 ∙ nil_from_length pending (eqb-true (length pending) 0 (sym e ∙ t))) h.are),
  λ p. e ∙ ap (λ (l : List ℕ). eqb (length l) 0) (empty_if_between fed pending waiting whole h p),
)

-- ---- the next frame

pub keeps_popped : (fed : Fed) (pending : List ℕ) (old new : List Frame) (whole : ℕ) (torn : Bool) (r : Option Frame) → Keeps fed pending old whole torn → old ≡ option_to_list r ++ new → is_some r ≡ true
    → Keeps (took_more fed) pending new whole torn
keeps_popped fed pending old new whole torn (Some f) h e some = keeps_rest fed pending f new whole torn (subst (λ (l : List Frame). Keeps fed pending l whole torn) e h)
keeps_popped fed pending old new whole torn None h e some = absurd (false≢true some)

pub popped_first : (old new : List Frame) (r : Option Frame) → old ≡ option_to_list r ++ new → new ≡ drop 1 old → r ≡ slice_get old 0
popped_first old new (Some f) e d = ap (λ (l : List Frame). slice_get l 0) (sym e)
popped_first [] new None e d = refl
popped_first (x ∷ old) new None e d = let n = ap length (e ∙ d) in absurd (omega (arith, n))

-- ---- a piece

pub keeps_torn_on : (fed : Fed) (pending : List ℕ) (waiting : List Frame) (whole : ℕ) (torn : Bool) → torn ≡ true → Keeps fed pending waiting whole torn → (piece : List ℕ) → Keeps (fed_more fed piece) pending waiting whole torn
keeps_torn_on fed pending waiting whole true e h piece = keeps_torn fed pending waiting whole h piece
keeps_torn_on fed pending waiting whole false e h piece = absurd (false≢true e)

pub takes_torn : (old new : Fed) (piece pending : List ℕ) (waiting : List Frame) (whole : ℕ) (torn : Bool) → torn ≡ true → Keeps new pending waiting whole torn → new ≡ fed_more old piece → TakesTorn old piece new whole
takes_torn old new piece pending waiting whole true e h same = record { now = same; torn = torn_of new pending waiting whole h }
takes_torn old new piece pending waiting whole false e h same = absurd (false≢true e)

pub takes_sound : (old new : Fed) (piece pending : List ℕ) (waiting : List Frame) (whole : ℕ) (torn : Bool) → torn ≡ false → Keeps new pending waiting whole torn → new ≡ fed_more old piece → Takes old piece new
takes_sound old new piece pending waiting whole false e h same = record { now = same; sound = sound_of new pending waiting whole h }
takes_sound old new piece pending waiting whole true e h same = absurd (false≢true (sym e))

-- ---- the front of the bytes

pub whole_front : (bytes : List ℕ) (f : Frame) (w : ℕ) → 8 ≤ length bytes → ((i : ℕ) → get_or bytes i 0 < 256) → is_right_header bytes ≡ true → w ≡ word_at bytes 4 → 8 + w ≤ length bytes
    → IsBody (get_or bytes 2 0) (take (8 + w - 8) (drop 8 bytes)) (Some f) → IsWhole bytes f (8 + w)
whole_front bytes f w long small right e within h =
    let same : 8 + w - 8 ≡ word_at bytes 4 = omega arith in
    record {
      fits = h.0;
      long = omega arith;
      within = within;
      spells = ap (λ (n : ℕ). take (8 + n) bytes) e ∙ spelled bytes f long small right (omega arith) h.1 (h.2 ∙ ap (λ (n : ℕ). take n (drop 8 bytes)) same);
    }

pub torn_front : (bytes : List ℕ) (w : ℕ) → 8 ≤ length bytes → w ≡ word_at bytes 4 → 8 + w ≤ length bytes → IsBody (get_or bytes 2 0) (take (8 + w - 8) (drop 8 bytes)) None → IsTorn bytes
torn_front bytes w long e within h =
    let same : 8 + w - 8 ≡ word_at bytes 4 = omega arith in
    (long, inr (omega arith, λ f s. h f s.0 (kind_spelled bytes f s.1) (body_spelled bytes f s.1 ∙ ap (λ (n : ℕ). take n (drop 8 bytes)) (sym same))))
