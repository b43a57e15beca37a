-- Sets of positions, 64 of them to a word.
use Rattle.std.proofs.Common.{◌≡◌, ℕ, zero, suc, ◌+◌, ◌-◌, ◌*◌, ◌/◌, ◌%◌, ◌^◌, ◌<◌, ◌≤◌, ◌≢◌, Bool, true, false, List, [], ◌∷◌, ◌++◌, length, get_or, replicate, refl, sym, ap, ◌∙◌, inl, inr, arith, append_assoc, append-nil}
use Rattle.std.specs.Prelude.{All, ◌==◌, ◌&&◌, not, filter}
use Rattle.std.specs.Int.{trailing_zeros, w64}
use Rattle.std.specs.List.{range_with_len}
use Rattle.std.proofs.lemmas.Bool.Decides.{eqb_tells, nat_tests}
use Rattle.std.proofs.lemmas.Nat.Bits.{bit_at-zero}
use Rattle.std.proofs.lemmas.List.Elements.{filter-append}
use Rattle.px_base.specs.declared.graph.Read.{Read}
use Rattle.px_base.specs.Values.{positions_below}
use Rattle.partitioner.specs.Bits.{has_bit, holds, word_positions}
use Rattle.partitioner.proofs.BitWords.{no_bit}
use Rattle.partitioner.proofs.LowestBits.{IsRestOf, rest_of_all, rest_of_rest, lowest_has, below_lowest, lowest_small, bit_low, first_of}
use Rattle.partitioner.proofs.Ranges.{filters_agree}

pub holds_none : (n u : ℕ) → holds (replicate n 0) u ≡ false
holds_none n u = no_bit n (u / 64) (u % 64)

pub sources_inside : (n : ℕ) (rows : List (List Read)) (words : List ℕ) → length words ≡ n / 64 + 1 → All (λ row. All (λ r. r.source < n) row) rows → All (λ row. All (λ r. r.source < 64 * length words) row) rows
sources_inside n rows words size sources k d inside i e below = omega (arith, size, sources k d inside i e below)

-- ---- the positions of a word's bits

shifted_same : (first low k : ℕ) → first ≤ k → (k - first == low) ≡ (k == first + low)
shifted_same first low k from = elim (eqb_tells k (first + low)) [
  | inl (t, same) ↦ rw t (let at : k - first ≡ low = omega arith in grind (arith, nat_tests))
  | inr (t, apart) ↦ rw t (let at : k - first ≢ low = λ e. apart (omega (arith, e)) in elim (eqb_tells (k - first) low) [ inl (s, e) ↦ absurd (at e) | inr (s, e) ↦ s ])
]

some_first : (word next first m : ℕ) → m ≡ 64 → 0 < word → word < 2 ^ 64 → ((k : ℕ) → has_bit next k ≡ (has_bit word k && not (k == trailing_zeros w64 word))) →
    filter (λ u. has_bit word (u - first)) (range_with_len first m) ≡ (first + trailing_zeros w64 word) ∷ filter (λ u. has_bit next (u - first)) (range_with_len first m)
some_first word next first m wide some fits bits =
    let low : ℕ = trailing_zeros w64 word in
    let place : first + low - first ≡ low = omega arith in
    first_of (λ u. has_bit word (u - first)) (λ u. has_bit next (u - first)) (first + low) first m (omega arith) (omega (arith, lowest_small word some fits))
    (ap (has_bit word) place ∙ lowest_has word some fits)
    (λ k from before. below_lowest word (k - first) some fits (omega arith))
    (λ k from. bits (k - first) ∙ ap (λ b. has_bit word (k - first) && not b) (shifted_same first low k from))

pub next_position : (word next first : ℕ) → 0 < word → word < 2 ^ 64 → ((k : ℕ) → has_bit next k ≡ (has_bit word k && not (k == trailing_zeros w64 word))) →
    word_positions word first ≡ (first + trailing_zeros w64 word) ∷ word_positions next first
unfolding word_positions
next_position word next first some fits bits = some_first word next first 64 refl some fits bits

none_passes : (p : ℕ → Bool) (a n : ℕ) → ((k : ℕ) → p k ≡ false) → filter p (range_with_len a n) ≡ []
none_passes p a zero none = refl
none_passes p a (suc n) none = rw (none a) (none_passes p (a + 1) n none)

pub no_position : (first : ℕ) → word_positions 0 first ≡ []
unfolding word_positions
no_position first = none_passes (λ u. has_bit 0 (u - first)) first 64 (λ k. ap (λ b. b == 1) (bit_at-zero (k - first)))

-- the positions that are appended so far, and those of the rest of the word
pub record ArePushed (word rest first : ℕ) (before found : List ℕ) : Type 0 where
  pub of : IsRestOf word rest
  pub all : found ++ word_positions rest first ≡ before ++ word_positions word first

pub none_pushed : (word first : ℕ) (before : List ℕ) → word < 2 ^ 64 → ArePushed word word first before before
none_pushed word first before fits = record { of = rest_of_all word fits; all = refl }

pub next_pushed : (word rest next first : ℕ) (before found now : List ℕ) → 0 < rest → next < 2 ^ 64 → ((k : ℕ) → has_bit next k ≡ (has_bit rest k && not (k == trailing_zeros w64 rest))) →
    now ≡ found ++ (first + trailing_zeros w64 rest) ∷ [] → ArePushed word rest first before found → ArePushed word next first before now
next_pushed word rest next first before found now some fits bits more so_far = record {
  of = rest_of_rest word rest next fits bits so_far.of;
  all = ap (λ xs. xs ++ word_positions next first) more
      ∙ append_assoc found ((first + trailing_zeros w64 rest) ∷ []) (word_positions next first)
      ∙ ap (λ xs. found ++ xs) (sym (next_position rest next first some so_far.of.fits bits))
      ∙ so_far.all;
}

pub all_pushed : (word rest first : ℕ) (before found : List ℕ) → rest ≡ 0 → ArePushed word rest first before found → found ≡ before ++ word_positions word first
all_pushed word rest first before found none so_far =
    sym (ap (λ xs. found ++ xs) (ap (λ n. word_positions n first) none ∙ no_position first) ∙ append-nil found) ∙ so_far.all

-- ---- word by word

range_split : (a m n k b : ℕ) → k ≡ m + n → b ≡ a + m → range_with_len a k ≡ range_with_len a m ++ range_with_len b n
range_split a zero n k b size at = let same : k ≡ n = omega arith in let from : b ≡ a = omega arith in rw (same, from) refl
range_split a (suc m) n zero b size at = absurd (omega arith)
range_split a (suc m) n (suc k) b size at = ap (λ xs. a ∷ xs) (range_split (a + 1) m n k b (omega arith) (omega arith))

in_word : (words : List ℕ) (i u : ℕ) → i * 64 ≤ u → u < i * 64 + 64 → holds words u ≡ has_bit (get_or words i 0) (u - i * 64)
in_word words i u from to =
    let word : u / 64 ≡ i = omega arith in
    let bit : u % 64 ≡ u - i * 64 = omega arith in
    rw (word, bit) refl

word_block : (words : List ℕ) (i m : ℕ) → m ≡ 64 → filter (holds words) (range_with_len (i * 64) m) ≡ filter (λ u. has_bit (get_or words i 0) (u - i * 64)) (range_with_len (i * 64) m)
word_block words i m wide = filters_agree (holds words) (λ u. has_bit (get_or words i 0) (u - i * 64)) (i * 64) m (λ u from to. in_word words i u from (omega arith))

block_more : (words : List ℕ) (i m : ℕ) → m ≡ 64 →
    filter (holds words) (positions_below (64 * (i + 1))) ≡ filter (holds words) (positions_below (64 * i)) ++ filter (λ u. has_bit (get_or words i 0) (u - i * 64)) (range_with_len (i * 64) m)
block_more words i m wide =
    ap (filter (holds words)) (range_split 0 (64 * i) m (64 * (i + 1)) (i * 64) (omega arith) (omega arith))
    ∙ filter-append (holds words) (positions_below (64 * i)) (range_with_len (i * 64) m)
    ∙ ap (λ xs. filter (holds words) (positions_below (64 * i)) ++ xs) (word_block words i m wide)

pub one_word_more : (words : List ℕ) (i : ℕ) (before now : List ℕ) → before ≡ filter (holds words) (positions_below (64 * i)) → now ≡ before ++ word_positions (get_or words i 0) (i * 64) →
    now ≡ filter (holds words) (positions_below (64 * (i + 1)))
unfolding word_positions
one_word_more words i before now was is =
    is ∙ ap (λ xs. xs ++ filter (λ u. has_bit (get_or words i 0) (u - i * 64)) (range_with_len (i * 64) 64)) was ∙ sym (block_more words i 64 refl)

pub position_fits : (words : List ℕ) (i k : ℕ) → get_or words i 0 < 2 ^ 64 → ((u : ℕ) → holds words u ≡ true → u < 2 ^ 32) → has_bit (get_or words i 0) k ≡ true → i * 64 + k < 2 ^ 32
position_fits words i k small fit has =
    let low : k < 64 = bit_low (get_or words i 0) k small has in
    let offset : i * 64 + k - i * 64 ≡ k = omega arith in
    fit (i * 64 + k) (in_word words i (i * 64 + k) (omega arith) (omega arith) ∙ ap (has_bit (get_or words i 0)) offset ∙ has)
