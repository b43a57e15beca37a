-- Frames that are read one after the other.
use Rattle.std.proofs.Common.{◌≡◌, ℕ, ◌+◌, List, [], ◌∷◌, ◌++◌, take, drop, append_assoc, length-drop, ap, ◌∙◌, arith}
use Rattle.std.specs.Prelude.{flat_map}
use Rattle.std.proofs.Math.Seq.{take-add}
use Rattle.std.proofs.lemmas.List.{flat_map_more}
use Rattle.std.proofs.lemmas.List.Elements.{All-push}
use Rattle.px_base.specs.declared.frame.Frame.{Frame}
use Rattle.px_base.specs.Frames.{spelling}
use Rattle.px_base.specs.FrameFits.{FrameFits}
use Rattle.px_frames.specs.Decodings.{ScansTo}
use Rattle.px_frames.specs.Fronts.{IsWhole}

-- one more frame is read
pub scans_more : (bytes : List ℕ) (old new more : List Frame) (at len : ℕ) (f : Frame) → ScansTo bytes old new at → IsWhole (drop at bytes) f len → more ≡ new ++ f ∷ [] → ScansTo bytes old more (at + len)
scans_more bytes old new more at len f s w e = record {
  frames = s.frames ++ f ∷ [];
  added = e ∙ ap (λ (l : List Frame). l ++ f ∷ []) s.added ∙ append_assoc old s.frames (f ∷ []);
  fit = All-push FrameFits s.frames f s.fit w.fits;
  within = omega (arith, w.within, s.within, length-drop at bytes);
  front = take-add at len bytes ∙ ap (λ (l : List ℕ). l ++ take len (drop at bytes)) s.front ∙ ap (λ (l : List ℕ). flat_map spelling s.frames ++ l) w.spells
      ∙ flat_map_more spelling [] s.frames f;
}
