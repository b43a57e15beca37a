-- Words with a bit for each part.
use Rattle.std.proofs.Common.{◌≡◌, ℕ, zero, suc, ◌+◌, ◌*◌, ◌%◌, ◌^◌, ◌<◌, Bool, true, false, List, length, get_or, set, replicate, refl, sym, ap, ◌∙◌, inl, inr, arith, get_or-set_same, get_or-set_other}
use Rattle.std.specs.Prelude.{◌==◌, ◌&&◌, ◌||◌, nat_lt, bit_or}
use Rattle.std.specs.Int.{w64}
use Rattle.std.proofs.Math.Bool.{or-true, or-false, and-false}
use Rattle.std.proofs.lemmas.Bool.{cases_lt}
use Rattle.std.proofs.lemmas.Bool.Decides.{eqb_tells, nat_tests}
use Rattle.std.proofs.lemmas.Nat.Bits.{bit_at-zero, bit_at_set_same, bit_at_set_other}
use Rattle.partitioner.specs.Bits.{has_bit}

-- ---- one word

pub with_bit_is : (word j k : ℕ) → j < 64 → has_bit (bit_or word (1 * 2 ^ j % 2 ^ 64)) k ≡ (has_bit word k || k == j)
with_bit_is word j k small = elim (eqb_tells k j) [
  | inl (t, same) ↦ rw (t, same, bit_at_set_same w64 word j small) (sym (or-true (has_bit word j)))
  | inr (t, apart) ↦ rw (t, bit_at_set_other w64 word j small k apart) (sym (or-false (has_bit word k)))
]

-- ---- a word for each position

-- the position is outside the range, and gets the bit
pub marked : (words : List ℕ) (at word j u k : ℕ) (out : ℕ → Bool) → at < length words → out at ≡ true → has_bit word k ≡ (has_bit (get_or words at 0) k || k == j) →
    has_bit (get_or (set words at word) u 0) k ≡ (has_bit (get_or words u 0) k || (k == j && (out u && at == u)))
marked words at word j u k out inside outside is = elim (eqb_tells at u) [
  | inl (t, same) ↦ rw (t, ← same, outside, get_or-set_same words at word 0 inside) (is ∙ ap (λ b. has_bit (get_or words at 0) k || b) (and_true (k == j)))
  | inr (t, apart) ↦ rw (t, get_or-set_other words at u word 0 (λ e. apart (sym e)), and-false (out u), and-false (k == j)) (sym (or-false (has_bit (get_or words u 0) k)))
]
  where
    and_true : (b : Bool) → b ≡ (b && true)
    and_true true = refl
    and_true false = refl

-- ---- all parts

no_word : (n u : ℕ) → get_or {A = ℕ} (replicate n 0) u 0 ≡ 0
no_word zero u = refl
no_word (suc n) zero = refl
no_word (suc n) (suc u) = no_word n u

pub no_bit : (n u k : ℕ) → has_bit (get_or {A = ℕ} (replicate n 0) u 0) k ≡ false
no_bit n u k = rw (no_word n u, bit_at-zero k) refl

lower : (k j : ℕ) → k < j → (nat_lt k j ≡ true) × (nat_lt k (j + 1) ≡ true) × ((k == j) ≡ false)
lower k j low = (grind (arith, nat_tests), grind (arith, nat_tests), grind (arith, nat_tests))

equal : (j : ℕ) → (nat_lt j j ≡ false) × (nat_lt j (j + 1) ≡ true) × ((j == j) ≡ true)
equal j = (grind (arith, nat_tests), grind (arith, nat_tests), grind (arith, nat_tests))

higher : (k j : ℕ) → j < k → (nat_lt k j ≡ false) × (nat_lt k (j + 1) ≡ false) × ((k == j) ≡ false)
higher k j high = (grind (arith, nat_tests), grind (arith, nat_tests), grind (arith, nat_tests))

one_part_more : (mirrors : ℕ → Bool) (j k : ℕ) → ((nat_lt k j && mirrors k) || (k == j && mirrors j)) ≡ (nat_lt k (j + 1) && mirrors k)
one_part_more mirrors j k = elim (cases_lt k j) [
  | inl low ↦ (let t : (nat_lt k j ≡ true) × (nat_lt k (j + 1) ≡ true) × ((k == j) ≡ false) = lower k j low in rw (t.0, t.1, t.2) (or-false (mirrors k)))
  | inr from ↦ elim (cases_lt j k) [
    | inl high ↦ (let t : (nat_lt k j ≡ false) × (nat_lt k (j + 1) ≡ false) × ((k == j) ≡ false) = higher k j high in rw (t.0, t.1, t.2) refl)
    | inr to ↦ (let same : k ≡ j = omega arith in let t : (nat_lt j j ≡ false) × (nat_lt j (j + 1) ≡ true) × ((j == j) ≡ true) = equal j in rw (same, t.0, t.1, t.2) refl)
  ]
]

-- one part more
pub part_more : (now next : Bool) (mirrors : ℕ → Bool) (j k : ℕ) → now ≡ (nat_lt k j && mirrors k) → next ≡ (now || (k == j && mirrors j)) → next ≡ (nat_lt k (j + 1) && mirrors k)
part_more now next mirrors j k was is = is ∙ ap (λ b. b || (k == j && mirrors j)) was ∙ one_part_more mirrors j k
