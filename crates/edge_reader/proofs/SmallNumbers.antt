-- The number of a field, digit by digit.
use Rattle.std.proofs.Common.{◌≡◌, ℕ, ◌+◌, ◌-◌, ◌*◌, ◌^◌, ◌<◌, ◌≤◌, Bool, true, false, not, cond, List, [], ◌∷◌, length, refl, sym, ap, ◌∙◌, arith, lit<}
use Rattle.std.specs.Prelude.{Result, Ok, Err, Option, Some, None, nat_lt, ◌==◌, if◌then◌else◌}
use Rattle.std.specs.Char.{is_ascii_digit, digit_value}
use Rattle.std.specs.Int.{IsInRange}
use Rattle.std.specs.Str.Parse.{digits_value_after}
use Rattle.std.proofs.lemmas.Bool.Decides.{nat_tests}
use Rattle.std.proofs.lemmas.Bool.{le-ltb, lt-ltb, ne_eqb, ltb-true, ltb-false}
use Rattle.std.proofs.lemmas.Str.{digit_value_digit}
use Rattle.px_base.specs.declared.TheConstants.{ID_LIMIT}
use Rattle.px_base.specs.Lines.{number_below}
use Rattle.px_base.specs.Text.{digits_end, number_of}
use Rattle.px_base.specs.declared.number.NumberFault.{NumberFault}
use Rattle.px_base.specs.declared.number.NumberFault.TheVariants.{Empty, NotDigit, TooGreat}
use Rattle.edge_reader.specs.Scans.{with_digits}

abbrev all_digits : List ℕ → Bool
all_digits [] = true
all_digits (b ∷ bs) = cond (is_ascii_digit b) (all_digits bs) false

abbrev small_whole : Bool → ℕ → Option ℕ
small_whole digits v = cond digits (cond (nat_lt (2 ^ 32 - 1) v) None (Some v)) None

digit_is : (b : ℕ) → is_ascii_digit b ≡ true → digit_value b ≡ b - 48
digit_is b h = let inside : IsInRange 48 57 b = grind (arith, nat_tests) in omega (arith, digit_value_digit b inside)

-- a number never falls
after_ge : (bs : List ℕ) (n : ℕ) → n ≤ digits_value_after 10 n bs
after_ge [] n = omega arith
after_ge (b ∷ bs) n = omega (arith, after_ge bs (n * 10 + digit_value b))

too_great : (digits : Bool) (v : ℕ) → 2 ^ 32 ≤ v → small_whole digits v ≡ None
too_great true v h = rw (lt-ltb (2 ^ 32 - 1) v (omega arith)) refl
too_great false v h = refl

small_enough : (v : ℕ) → v < 2 ^ 32 → small_whole true v ≡ Some v
small_enough v h = rw (le-ltb (2 ^ 32 - 1) v (omega arith)) refl

by_size : (n b : ℕ) (bs : List ℕ) (t : Bool) → is_ascii_digit b ≡ true → nat_lt (n * 10 + (b - 48)) (2 ^ 32) ≡ t →
    ((m : ℕ) → m < 2 ^ 32 → with_digits m bs ≡ small_whole (all_digits bs) (digits_value_after 10 m bs)) →
    with_digits n (b ∷ bs) ≡ small_whole (all_digits (b ∷ bs)) (digits_value_after 10 n (b ∷ bs))
by_size n b bs true d t rest = rw (d, t, digit_is b d) (rest (n * 10 + (b - 48)) (ltb-true (n * 10 + (b - 48)) (2 ^ 32) t))
by_size n b bs false d t rest = rw (d, t, digit_is b d)
    (sym (too_great (all_digits bs) (digits_value_after 10 (n * 10 + (b - 48)) bs) (omega (arith, ltb-false (n * 10 + (b - 48)) (2 ^ 32) t, after_ge bs (n * 10 + (b - 48))))))

by_digit : (n b : ℕ) (bs : List ℕ) (t : Bool) → is_ascii_digit b ≡ t →
    ((m : ℕ) → m < 2 ^ 32 → with_digits m bs ≡ small_whole (all_digits bs) (digits_value_after 10 m bs)) →
    with_digits n (b ∷ bs) ≡ small_whole (all_digits (b ∷ bs)) (digits_value_after 10 n (b ∷ bs))
by_digit n b bs true d rest = by_size n b bs (nat_lt (n * 10 + (b - 48)) (2 ^ 32)) d refl rest
by_digit n b bs false d rest = rw d refl

from_is : (bs : List ℕ) (n : ℕ) → n < 2 ^ 32 → with_digits n bs ≡ small_whole (all_digits bs) (digits_value_after 10 n bs)
from_is [] n h = sym (small_enough n h)
from_is (b ∷ bs) n h = by_digit n b bs (is_ascii_digit b) refl (λ m small. from_is bs m small)

end_at : (b : ℕ) (bs : List ℕ) (t : Bool) → is_ascii_digit b ≡ t → nat_lt (digits_end bs) (length bs) ≡ not (all_digits bs) →
    nat_lt (digits_end (b ∷ bs)) (length (b ∷ bs)) ≡ not (all_digits (b ∷ bs))
end_at b bs true d rest = rw d (grind (arith, nat_tests))
end_at b bs false d rest = rw d (lt-ltb 0 (length (b ∷ bs)) (omega arith))

end_is : (bs : List ℕ) → nat_lt (digits_end bs) (length bs) ≡ not (all_digits bs)
end_is [] = refl
end_is (b ∷ bs) = end_at b bs (is_ascii_digit b) refl (end_is bs)

-- what a field writes, by the three tests on it
abbrev read_by : Bool → Bool → Bool → ℕ → ℕ → Option ℕ
read_by empty other great at v =
    let read : Result ℕ NumberFault = if empty then Err Empty else if other then Err (NotDigit at) else if great then Err TooGreat else Ok v in
    elim read [ Ok n ↦ Some n | Err fault ↦ None ]

read_is : (digits great : Bool) (at v : ℕ) → read_by false (not digits) great at v ≡ cond digits (cond great None (Some v)) None
read_is true true at v = refl
read_is true false at v = refl
read_is false true at v = refl
read_is false false at v = refl

-- what a field with a byte writes
pub small_is : (b : ℕ) (bs : List ℕ) → number_below ID_LIMIT (b ∷ bs) ≡ with_digits 0 (b ∷ bs)
small_is b bs =
    let f : List ℕ = b ∷ bs in
    let some : (length f == 0) ≡ false = ne_eqb (length f) 0 (λ e. omega (arith, e)) in
    ap (λ t. read_by t (nat_lt (digits_end f) (length f)) (nat_lt (2 ^ 32 - 1) (number_of f)) (digits_end f) (number_of f)) some
    ∙ ap (λ t. read_by false t (nat_lt (2 ^ 32 - 1) (number_of f)) (digits_end f) (number_of f)) (end_is f)
    ∙ read_is (all_digits f) (nat_lt (2 ^ 32 - 1) (number_of f)) (digits_end f) (number_of f)
    ∙ sym (from_is f 0 (lit< tt))
