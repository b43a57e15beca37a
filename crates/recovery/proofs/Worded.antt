-- Routes in words of bits.
use Rattle.std.proofs.Common.{◌≡◌, ℕ, zero, suc, ◌+◌, ◌^◌, ◌<◌, ◌≤◌, Bool, true, false, List, [], ◌∷◌, ◌++◌, length, take, get_or, refl, sym, ap, ◌∙◌, arith, inl, inr}
use Rattle.std.specs.Prelude.{◌==◌, ◌||◌, not}
use Rattle.std.specs.Int.{trailing_zeros, w64}
use Rattle.std.proofs.lemmas.Bool.{cases_lt}
use Rattle.std.proofs.lemmas.Bool.Decides.{eqb_tells, nat_tests}
use Rattle.std.proofs.lemmas.List.{get_or_append_left, get_or_push}
use Rattle.std.proofs.lemmas.List.Folds.{list_any_more, list_any_at}
use Rattle.std.proofs.lemmas.Nat.Bits.{bit_at-zero}
use Rattle.px_base.specs.Values.{is_listed}
use Rattle.partitioner.specs.Bits.{has_bit}
use Rattle.partitioner.proofs.LowestBits.{lowest_has}
use Rattle.recovery.specs.Keeping.{AreRouteWords}

pub no_bit : (k : ℕ) → has_bit 0 k ≡ false
no_bit k = ap (λ b. b == 1) (bit_at-zero k)

-- ---- one word

either_way : (a b : ℕ) → (a == b) ≡ (b == a)
either_way a b = grind (arith, nat_tests)

-- one worker more
pub bits_more : (route : List ℕ) (i k word next : ℕ) → i < length route → has_bit word k ≡ is_listed (take i route) k → has_bit next k ≡ (has_bit word k || k == get_or route i 0) →
    has_bit next k ≡ is_listed (take (i + 1) route) k
bits_more route i k word next inside was is =
    is ∙ ap (λ b. b || k == get_or route i 0) was ∙ ap (λ b. is_listed (take i route) k || b) (either_way k (get_or route i 0))
    ∙ sym (list_any_more (λ item. item == k) route i 0 inside)

same_bool : (a b : Bool) → (a ≡ true → b ≡ true) → (b ≡ true → a ≡ true) → a ≡ b
same_bool true b f g = sym (f refl)
same_bool false true f g = g refl
same_bool false false f g = refl

not_zero : (n : ℕ) → not (n == 0) ≡ true → 0 < n
not_zero n h = grind (arith, nat_tests)

some_left : (n : ℕ) → 0 < n → not (n == 0) ≡ true
some_left n some = grind (arith, nat_tests)

some_listed : (xs : List ℕ) (x : ℕ) → is_listed xs x ≡ true → not (length xs == 0) ≡ true
some_listed [] x h = cc
some_listed (y ∷ xs) x h = some_left (length (y ∷ xs)) (omega arith)

-- a word with some bit isn't 0
bit_some : (word k : ℕ) → has_bit word k ≡ true → not (word == 0) ≡ true
bit_some word k h = elim (eqb_tells word 0) [
  | inl (t, none) ↦ (let no : has_bit word k ≡ false = ap (λ w. has_bit w k) none ∙ no_bit k in absurd (cc))
  | inr (t, some) ↦ ap not t
]

first_listed : (xs : List ℕ) → 0 < length xs → is_listed xs (get_or xs 0 0) ≡ true
first_listed xs some = list_any_at (λ item. item == get_or xs 0 0) xs 0 0 some (grind (arith, nat_tests))

-- a word has some bit exactly where some worker is on the route
pub some_bit : (word : ℕ) (route : List ℕ) → word < 2 ^ 64 → ((j : ℕ) → has_bit word j ≡ is_listed route j) → not (word == 0) ≡ not (length route == 0)
some_bit word route fits bits = same_bool (not (word == 0)) (not (length route == 0))
    (λ h. some_listed route (trailing_zeros w64 word) (sym (bits (trailing_zeros w64 word)) ∙ lowest_has word (not_zero word h) fits))
    (λ h. bit_some word (get_or route 0 0) (bits (get_or route 0 0) ∙ first_listed route (not_zero (length route) h)))

-- ---- all words

-- the words of the routes so far
pub record AreWordsBefore (to : List (List ℕ)) (words : List ℕ) (i : ℕ) : Type 0 where
  pub size : length words ≡ i
  pub bits : (v j : ℕ) → v < i → has_bit (get_or words v 0) j ≡ is_listed (get_or to v []) j

pub words_more : (to : List (List ℕ)) (old now : List ℕ) (i word : ℕ) → AreWordsBefore to old i → now ≡ old ++ word ∷ [] → ((j : ℕ) → has_bit word j ≡ is_listed (get_or to i []) j) → AreWordsBefore to now (i + 1)
words_more to old now i word so_far more is = record {
  size = rw more (omega (arith, so_far.size, size_more old));
  bits = λ v j low. rw more (elim (cases_lt v i) [
    | inl before ↦ ap (λ w. has_bit w j) (get_or_append_left old (word ∷ []) 0 v (omega (arith, before, so_far.size))) ∙ so_far.bits v j before
    | inr from ↦ (let same : v ≡ i = omega arith in rw same (ap (λ w. has_bit w j) (get_or_push old word 0 i so_far.size) ∙ is j))
  ]);
}
  where
    size_more : (xs : List ℕ) → length (xs ++ word ∷ []) ≡ length xs + 1
    size_more [] = refl
    size_more (x ∷ xs) = omega (arith, size_more xs)

past_end : {X : Type 0} (xs : List X) (v : ℕ) (d : X) → length xs ≤ v → get_or xs v d ≡ d
past_end [] v d out = refl
past_end (x ∷ xs) zero d out = absurd (omega arith)
past_end (x ∷ xs) (suc v) d out = past_end xs v d (omega arith)

pub words_are : (to : List (List ℕ)) (words : List ℕ) (i : ℕ) → i ≡ length to → AreWordsBefore to words i → AreRouteWords to words
words_are to words i end all = record {
  size = all.size ∙ end;
  bits = λ v j. elim (cases_lt v i) [
    | inl low ↦ all.bits v j low
    | inr high ↦ rw (past_end words v 0 (omega (arith, high, all.size)), past_end to v [] (omega (arith, high, end))) (no_bit j)
  ];
}
