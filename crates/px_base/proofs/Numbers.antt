-- What one more digit does to a number.
use Rattle.std.proofs.Common.{ℕ, Bool, true, ◌+◌, ◌*◌, ◌<◌, ◌≤◌, false, cond, List, length, take, get_or, arith, refl, sym, ap}
use Rattle.std.specs.Prelude.{◌≡◌, ◌==◌, nat_lt, not, Ok, Err}
use Rattle.std.specs.Char.{is_ascii_digit}
use Rattle.std.specs.Int.{IsInRange}
use Rattle.std.proofs.lemmas.List.Sums.{fails_before_first, position_or_len_is}
use Rattle.std.proofs.lemmas.Int.Digits.{digits_value_more}
use Rattle.std.proofs.lemmas.Str.Parse.{digits_value-take-le}
use Rattle.std.proofs.lemmas.Str.{digit_value_digit}
use Rattle.std.proofs.lemmas.Bool.Decides.{nat_tests}
use Rattle.px_base.specs.declared.number.NumberFault.TheVariants.{Empty, NotDigit, TooGreat}
use Rattle.px_base.specs.Text.{digits_end, number_of, number_read}

-- a byte that is a digit is from 48 to 57
digit_range : (b : ℕ) → not (is_ascii_digit b) ≡ false → IsInRange 48 57 b
digit_range b h = grind (arith, nat_tests)

-- the number up to the digit at k, and that a longer text writes no less
pub next_digit : (text : List ℕ) (k : ℕ) → digits_end text ≡ length text → k < length text →
    (48 ≤ get_or text k 0) × (get_or text k 0 ≤ 57)
    × (number_of (take (k + 1) text) + 48 ≡ number_of (take k text) * 10 + get_or text k 0)
    × (number_of (take (k + 1) text) ≤ number_of text)
next_digit text k digits below =
    let digit : IsInRange 48 57 (get_or text k 0) = digit_range (get_or text k 0) (fails_before_first (λ b. not (is_ascii_digit b)) text k 0 (omega arith)) in
    (digit.0, digit.1, omega (arith, digits_value_more 10 text k below, digit_value_digit (get_or text k 0) digit), digits_value-take-le 10 text (k + 1) (omega arith))

-- digits stand up to this place, and none at it
pub digits_end_is : (text : List ℕ) (at : ℕ) → at ≤ length text → ((k : ℕ) → k < at → is_ascii_digit (get_or text k 0) ≡ true) →
    (at < length text → is_ascii_digit (get_or text at 0) ≡ false) → at ≡ digits_end text
digits_end_is text at inside before here = sym (position_or_len_is (λ b. not (is_ascii_digit b)) text at 0 inside (λ k below. ap not (before k below)) (λ below. ap not (here below)))

-- a number that is read is at most the greatest that is allowed
pub read_in_range : (text : List ℕ) (greatest n : ℕ) → number_read text greatest ≡ Ok n → n ≤ greatest
read_in_range text greatest n is = by_tests (length text == 0) (nat_lt (digits_end text) (length text)) (nat_lt greatest (number_of text)) refl is
  where
    by_tests : (empty bad great : Bool) → nat_lt greatest (number_of text) ≡ great →
        (cond empty (Err Empty) (cond bad (Err (NotDigit (digits_end text))) (cond great (Err TooGreat) (Ok (number_of text))))) ≡ Ok n → n ≤ greatest
    by_tests true bad great test is = absurd (cc)
    by_tests false true great test is = absurd (cc)
    by_tests false false true test is = absurd (cc)
    by_tests false false false test is = let same : number_of text ≡ n = cc in rw (← same) (grind (arith, nat_tests))
