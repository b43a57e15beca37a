-- Frames whose fields were read one after the other.
use Rattle.std.proofs.Common.{◌≡◌, ℕ, ◌*◌, Bool, List, ◌∷◌, ◌++◌, length, refl, sym, ap, ◌∙◌, subst, arith}
use Rattle.std.specs.Prelude.{flat_map, All, Some}
use Rattle.px_base.specs.declared.wire.Update.{Update}
use Rattle.px_base.specs.declared.wire.Order.TheVariants.{Step}
use Rattle.px_base.specs.declared.wire.Answer.TheVariants.{Stepped, Reported}
use Rattle.px_base.specs.declared.frame.Frame.TheVariants as frame
use Rattle.px_base.specs.Frames.{four_bytes, eight_bytes, pair_bytes, changed_code}
use Rattle.px_base.specs.FrameFits.{IsWord}
use Rattle.frame_bodies.specs.Widths.{IsLong, PairHasRoom}
use Rattle.frame_bodies.specs.Bodies.{IsCandidate}
use Rattle.frame_bodies.proofs.Lengths.{length_values, length_pairs}

pub step_is : (epoch round count : ℕ) (rest body : List ℕ) (us : List Update) → body ≡ four_bytes epoch ++ (eight_bytes round ++ (four_bytes count ++ rest)) → IsWord epoch → IsLong round → IsWord count
    → length rest ≡ 12 * count → flat_map pair_bytes us ≡ rest → All PairHasRoom us → IsCandidate 7 body (Some (frame.Order (Step epoch round us)))
step_is epoch round count rest body us e a b c l f r =
    let long : length (flat_map pair_bytes us) ≡ length rest = ap length f in
    let n : length us ≡ count = omega (arith, length_pairs us, long) in (
      (a, b, subst IsWord (sym n) c, r),
      refl,
      ap (λ (k : ℕ). four_bytes epoch ++ eight_bytes round ++ four_bytes k ++ flat_map pair_bytes us) n
          ∙ ap (λ (t : List ℕ). four_bytes epoch ++ eight_bytes round ++ four_bytes count ++ t) f ∙ sym e,
    )

pub stepped_is : (epoch round code count : ℕ) (changed : Bool) (rest body : List ℕ) (us : List Update) → body ≡ four_bytes epoch ++ (eight_bytes round ++ (code ∷ (four_bytes count ++ rest))) → IsWord epoch → IsLong round → IsWord count
    → changed_code changed ≡ code → length rest ≡ 12 * count → flat_map pair_bytes us ≡ rest → All PairHasRoom us → IsCandidate 9 body (Some (frame.Answer (Stepped epoch round changed us)))
stepped_is epoch round code count changed rest body us e a b c d l f r =
    let long : length (flat_map pair_bytes us) ≡ length rest = ap length f in
    let n : length us ≡ count = omega (arith, length_pairs us, long) in (
      (a, b, subst IsWord (sym n) c, r),
      refl,
      ap (λ (k : ℕ). four_bytes epoch ++ eight_bytes round ++ k ∷ four_bytes (length us) ++ flat_map pair_bytes us) d
          ∙ ap (λ (k : ℕ). four_bytes epoch ++ eight_bytes round ++ code ∷ four_bytes k ++ flat_map pair_bytes us) n
          ∙ ap (λ (t : List ℕ). four_bytes epoch ++ eight_bytes round ++ code ∷ four_bytes count ++ t) f ∙ sym e,
    )

pub reported_is : (epoch count : ℕ) (rest body xs : List ℕ) → body ≡ four_bytes epoch ++ (four_bytes count ++ rest) → IsWord epoch → IsWord count
    → length rest ≡ 8 * count → flat_map eight_bytes xs ≡ rest → All IsLong xs → IsCandidate 10 body (Some (frame.Answer (Reported epoch xs)))
reported_is epoch count rest body xs e a c l f r =
    let long : length (flat_map eight_bytes xs) ≡ length rest = ap length f in
    let n : length xs ≡ count = omega (arith, length_values xs, long) in (
      (a, subst IsWord (sym n) c, r),
      refl,
      ap (λ (k : ℕ). four_bytes epoch ++ four_bytes k ++ flat_map eight_bytes xs) n
          ∙ ap (λ (t : List ℕ). four_bytes epoch ++ four_bytes count ++ t) f ∙ sym e,
    )
