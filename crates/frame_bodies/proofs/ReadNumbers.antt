-- Numbers that are read from bytes.
use Rattle.std.proofs.Common.{◌≡◌, ℕ, zero, suc, ◌<◌, ◌≤◌, List, [], ◌∷◌, ◌++◌, length, drop, get_or, refl, sym, ap, ◌∙◌, arith}
use Rattle.std.specs.Int.{w32, w64, from_be_bytes}
use Rattle.std.proofs.lemmas.Nat.{be_bytes_4, be_bytes_8}
use Rattle.byteorder.specs.Endian.{big_number}
use Rattle.px_base.specs.Frames.{four_bytes, eight_bytes}

small_in_four : (a b c d : ℕ) → a < 256 → b < 256 → c < 256 → d < 256 → (i : ℕ) → get_or (a ∷ b ∷ c ∷ d ∷ []) i 0 < 256
small_in_four a b c d ha hb hc hd zero = ha
small_in_four a b c d ha hb hc hd (suc zero) = hb
small_in_four a b c d ha hb hc hd (suc (suc zero)) = hc
small_in_four a b c d ha hb hc hd (suc (suc (suc zero))) = hd
small_in_four a b c d ha hb hc hd (suc (suc (suc (suc n)))) = omega arith

small_in_eight : (a b c d e f g h : ℕ) → a < 256 → b < 256 → c < 256 → d < 256 → e < 256 → f < 256 → g < 256 → h < 256
    → (i : ℕ) → get_or (a ∷ b ∷ c ∷ d ∷ e ∷ f ∷ g ∷ h ∷ []) i 0 < 256
small_in_eight a b c d e f g h ha hb hc hd he hf hg hh zero = ha
small_in_eight a b c d e f g h ha hb hc hd he hf hg hh (suc zero) = hb
small_in_eight a b c d e f g h ha hb hc hd he hf hg hh (suc (suc zero)) = hc
small_in_eight a b c d e f g h ha hb hc hd he hf hg hh (suc (suc (suc zero))) = hd
small_in_eight a b c d e f g h ha hb hc hd he hf hg hh (suc (suc (suc (suc n)))) = small_in_four e f g h he hf hg hh n

-- the most significant byte is the first, as std has it
four_same : (a b c d : ℕ) (tail : List ℕ) → big_number 4 (a ∷ b ∷ c ∷ d ∷ tail) ≡ from_be_bytes w32 (a ∷ b ∷ c ∷ d ∷ [])
four_same a b c d tail = omega arith

eight_same : (a b c d e f g h : ℕ) (tail : List ℕ) → big_number 8 (a ∷ b ∷ c ∷ d ∷ e ∷ f ∷ g ∷ h ∷ tail) ≡ from_be_bytes w64 (a ∷ b ∷ c ∷ d ∷ e ∷ f ∷ g ∷ h ∷ [])
eight_same a b c d e f g h tail = omega arith

pub four_read : (bytes : List ℕ) (n : ℕ) → 4 ≤ length bytes → ((i : ℕ) → get_or bytes i 0 < 256) → n ≡ big_number 4 bytes → bytes ≡ four_bytes n ++ drop 4 bytes
four_read (a ∷ b ∷ c ∷ d ∷ tail) n long small e =
    ap (λ (l : List ℕ). l ++ tail) (sym (be_bytes_4 (a ∷ b ∷ c ∷ d ∷ []) n refl (small_in_four a b c d (small 0) (small 1) (small 2) (small 3)) (e ∙ four_same a b c d tail)))
four_read _ n long small e = absurd (omega arith)

pub eight_read : (bytes : List ℕ) (n : ℕ) → 8 ≤ length bytes → ((i : ℕ) → get_or bytes i 0 < 256) → n ≡ big_number 8 bytes → bytes ≡ eight_bytes n ++ drop 8 bytes
eight_read (a ∷ b ∷ c ∷ d ∷ e ∷ f ∷ g ∷ h ∷ tail) n long small same =
    ap (λ (l : List ℕ). l ++ tail)
    (sym (be_bytes_8 (a ∷ b ∷ c ∷ d ∷ e ∷ f ∷ g ∷ h ∷ []) n refl
    (small_in_eight a b c d e f g h (small 0) (small 1) (small 2) (small 3) (small 4) (small 5) (small 6) (small 7)) (same ∙ eight_same a b c d e f g h tail)))
eight_read _ n long small same = absurd (omega arith)
