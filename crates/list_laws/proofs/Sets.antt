-- Sets of places: tests that agree, and lists of flags.
use Rattle.std.proofs.Common.{◌≡◌, ℕ, zero, suc, ◌+◌, ◌<◌, ◌≤◌, Bool, true, false, refl, arith}
use Rattle.std.specs.Prelude.{◌==◌, filter}
use Rattle.std.specs.List.{range_with_len}
use Rattle.px_base.specs.Values.{by_position, positions_below, is_in, one_if}
use Rattle.px_base.proofs.Positions.{at_position}

filter_from : (one other : ℕ → Bool) (from n : ℕ) → ((k : ℕ) → from ≤ k → k < from + n → one k ≡ other k) → filter one (range_with_len from n) ≡ filter other (range_with_len from n)
filter_from one other from zero agree = refl
filter_from one other from (suc n) agree =
    let here : one from ≡ other from = agree from (omega arith) (omega arith) in
    rw (here, filter_from one other (from + 1) n (λ k low high. agree k (omega arith) (omega arith))) refl

-- two tests that agree on the first n
pub filter_same : (one other : ℕ → Bool) (n : ℕ) → ((k : ℕ) → k < n → one k ≡ other k) → filter one (positions_below n) ≡ filter other (positions_below n)
filter_same one other n agree = filter_from one other 0 n (λ k low high. agree k (omega arith))

-- what a list of flags has
pub flag_is : (n : ℕ) (test : ℕ → Bool) (k : ℕ) → k < n → is_in (by_position n (λ j. one_if (test j))) k ≡ test k
flag_is n test k below = rw (at_position n (λ j. one_if (test j)) k 0 below) (flag (test k))
  where
    flag : (b : Bool) → (one_if b == 1) ≡ b
    flag true = refl
    flag false = refl
