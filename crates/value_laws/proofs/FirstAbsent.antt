-- The least absent number, found in words of 64 candidates.
use Rattle.std.proofs.Common.{◌≡◌, ℕ, ◌+◌, ◌-◌, ◌*◌, ◌%◌, ◌^◌, ◌<◌, ◌≤◌, Bool, true, false, List, length, get_or, take, refl, sym, ap, ◌∙◌, inl, inr, arith, eq-eqb, eqb-true}
use Rattle.std.specs.Prelude.{◌==◌, ◌||◌, Contains, Any, bit_or}
use Rattle.std.specs.Int.{bit_at, trailing_ones, w64}
use Rattle.std.proofs.lemmas.Bool.{cases_lt}
use Rattle.std.proofs.lemmas.Bool.Decides.{eqb_tells, nat_tests}
use Rattle.std.proofs.lemmas.List.Folds.{list_any_more, Any-from_list_any}
use Rattle.std.proofs.lemmas.Nat.Bits.{bit_at_ones, bit_at_set_same, bit_at_set_other, bit_at-trailing_ones}
use Rattle.px_base.specs.Values.{is_listed}
use Rattle.px_base.specs.Rules.{mex}
use Rattle.px_base.proofs.Gathers.{pigeons, mex_is, mex_only}
use Rattle.value_laws.specs.Candidates.{has_bit, MarksFrom}
use Rattle.value_laws.specs.GatherLaws.{among}

-- ---- one item more

or_true : (b : Bool) → (b || true) ≡ true
or_true true = refl
or_true false = refl

or_false : (b : Bool) → (b || false) ≡ b
or_false true = refl
or_false false = refl

with_bit_is : (word j k : ℕ) → j < 64 → has_bit (bit_or word (1 * 2 ^ j % 2 ^ 64)) k ≡ (has_bit word k || k == j)
with_bit_is word j k small = elim (eqb_tells k j) [
  | inl (t, same) ↦ rw (t, same, bit_at_set_same w64 word j small) (sym (or_true (has_bit word j)))
  | inr (t, apart) ↦ rw (t, bit_at_set_other w64 word j small k apart) (sym (or_false (has_bit word k)))
]

same_place : (low item k : ℕ) → low ≤ item → (k == item - low) ≡ (item == low + k)
same_place low item k above = grind (arith, nat_tests)

-- the item is one of the candidates
pub marked : (word low item k : ℕ) → low ≤ item → item - low < 64 →
    has_bit (bit_or word (1 * 2 ^ (item - low) % 2 ^ 64)) k ≡ (has_bit word k || item == low + k)
marked word low item k above within = with_bit_is word (item - low) k within ∙ ap (λ b. has_bit word k || b) (same_place low item k above)

-- it is below them
pub unmarked_below : (word low item k : ℕ) → item < low → has_bit word k ≡ (has_bit word k || item == low + k)
unmarked_below word low item k under = let other : (item == low + k) ≡ false = grind (arith, nat_tests) in rw other (sym (or_false (has_bit word k)))

-- it is above them
pub unmarked_past : (word low item k : ℕ) → low ≤ item → 64 ≤ item - low → k < 64 → has_bit word k ≡ (has_bit word k || item == low + k)
unmarked_past word low item k above past small = let other : (item == low + k) ≡ false = grind (arith, nat_tests) in rw other (sym (or_false (has_bit word k)))

pub marks_more : (items : List ℕ) (low word next i : ℕ) → i < length items → MarksFrom low (take i items) word →
    ((k : ℕ) → k < 64 → has_bit next k ≡ (has_bit word k || get_or items i 0 == low + k)) → MarksFrom low (take (i + 1) items) next
marks_more items low word next i below was is = λ k small.
    is k small ∙ ap (λ b. b || get_or items i 0 == low + k) (was k small) ∙ sym (list_any_more (λ item. item == low + k) items i 0 below)

-- ---- all items

-- each number below low is among the items
abbrev pub ListedBelow : ℕ → List ℕ → Type 0
ListedBelow low items = (k : ℕ) → k < low → is_listed items k ≡ true

-- ones from the lowest bit on tell of as many items more
more_listed : (items : List ℕ) (low word ones : ℕ) → ones ≤ 64 → ((i : ℕ) → i < ones → bit_at word i ≡ 1) → ListedBelow low items → MarksFrom low items word → ListedBelow (low + ones) items
more_listed items low word ones small set below marks = λ k under. elim (cases_lt k low) [
  | inl old ↦ below k old
  | inr new ↦
      (let place : low + (k - low) ≡ k = omega arith in
      let listed : is_listed items (low + (k - low)) ≡ true = sym (marks (k - low) (omega arith)) ∙ eq-eqb (bit_at word (k - low)) 1 (set (k - low) (omega arith)) in
      rw place at listed)
]

-- a full word: 64 numbers more
pub full_word : (items : List ℕ) (low word : ℕ) → word ≡ 2 ^ 64 - 1 → ListedBelow low items → MarksFrom low items word → ListedBelow (low + 64) items
full_word items low word full below marks = more_listed items low word 64 (omega arith) (λ i small. rw full (bit_at_ones 64 i small)) below marks

-- so there are as many items
pub full_word_within : (items : List ℕ) (low word : ℕ) → word ≡ 2 ^ 64 - 1 → ListedBelow low items → MarksFrom low items word → low + 64 ≤ length items
full_word_within items low word full below marks = pigeons (low + 64) items (full_word items low word full below marks)

record Found (items : List ℕ) (m : ℕ) : Type 0 where
  absent : is_listed items m ≡ false
  each : ListedBelow m items

-- another word: its lowest 0 tells of the first number that is absent
found : (items : List ℕ) (low word : ℕ) → word + 1 < 2 ^ 64 → ListedBelow low items → MarksFrom low items word → Found items (low + trailing_ones w64 word)
found items low word some below marks =
    let first : (trailing_ones w64 word < 64) × (bit_at word (trailing_ones w64 word) ≡ 0) × ((i : ℕ) → i < trailing_ones w64 word → bit_at word i ≡ 1) = bit_at-trailing_ones w64 word some in
    record {
      absent = sym (marks (trailing_ones w64 word) first.0) ∙ ap (λ bit. bit == 1) first.1;
      each = more_listed items low word (trailing_ones w64 word) (omega (arith, first.0)) first.2 below marks;
    }

contained : (items : List ℕ) (k : ℕ) → is_listed items k ≡ true → Contains items k
contained items k h =
    let at : Any (λ x. (x == k) ≡ true) items = Any-from_list_any (λ x. x == k) items h in
    let same : at.1 ≡ k = eqb-true at.1 k at.4 in (at.0, at.2, rw same at at.3)

found_is_mex : (items : List ℕ) (m : ℕ) → Found items m → m ≡ mex items
found_is_mex items m f = mex_only items m (mex items) (record {
  absent = λ c. (let listed : is_listed items m ≡ true = among items m c in let other : is_listed items m ≡ false = f.absent in cc);
  each_below = λ k below. contained items k (f.each k below);
}) (mex_is items)

pub first_zero_is_mex : (items : List ℕ) (low word : ℕ) → word + 1 < 2 ^ 64 → ListedBelow low items → MarksFrom low items word → low + trailing_ones w64 word ≡ mex items
first_zero_is_mex items low word some below marks = found_is_mex items (low + trailing_ones w64 word) (found items low word some below marks)

-- it is at most the number of items
pub first_zero_within : (items : List ℕ) (low word : ℕ) → word + 1 < 2 ^ 64 → ListedBelow low items → MarksFrom low items word → low + trailing_ones w64 word ≤ length items
first_zero_within items low word some below marks = let f : Found items (low + trailing_ones w64 word) = found items low word some below marks in pigeons (low + trailing_ones w64 word) items f.each
