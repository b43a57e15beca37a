-- The cuts into blocks are cuts for workers.
use Rattle.std.proofs.Common.{◌≡◌, ℕ, ◌+◌, ◌-◌, ◌*◌, ◌/◌, ◌^◌, ◌<◌, ◌≤◌, List, length, get_or, arith, ◌∙◌}
use Rattle.std.proofs.Math.Nat.{div-mul-le_self, div-le_of_le-mul, mul-div_cancel_left}
use Rattle.std.proofs.lemmas.Nat.{le-div}
use Rattle.px_base.proofs.Positions.{length_by_position, at_position}
use Rattle.px_base.specs.Parts.{IsWorkerCuts, block_cuts}

-- a quotient grows with what is divided
pub quotients_rise : (a b d : ℕ) → 1 ≤ d → a ≤ b → a / d ≤ b / d
quotients_rise a b d some le = le-div (a / d) b d (omega arith) (omega (arith, div-mul-le_self a d))

scaled : (n k l : ℕ) → k ≤ l → k * n ≤ l * n
scaled n k l le = grind arith

pub product_below : (k n : ℕ) → k < 2 ^ 32 → n < 2 ^ 32 → k * n < 2 ^ 64
product_below k n small few = omega (arith, scaled n k (2 ^ 32) (omega arith))

pub block_below : (n workers k : ℕ) → 1 ≤ workers → k ≤ workers → k * n / workers ≤ n
block_below n workers k some within = div-le_of_le-mul workers (scaled n k workers within)

at_block : (n workers k d : ℕ) → k < workers + 1 → get_or (block_cuts n workers) k d ≡ k * n / workers
at_block n workers k d below = at_position (workers + 1) (λ k. k * n / workers) k d below

first_block : (n workers : ℕ) → 1 ≤ workers → 0 * n / workers ≡ 0
first_block n workers some =
    let none : 0 * n ≤ workers * 0 = omega arith in
    let least : 0 * n / workers ≤ 0 = div-le_of_le-mul workers none in
    omega arith

last_block : (n workers k : ℕ) → 1 ≤ workers → k ≡ workers → get_or (block_cuts n workers) k 0 ≡ n
last_block n workers k some last = rw last (at_block n workers workers 0 (omega arith) ∙ mul-div_cancel_left n (omega arith))

blocks_rise : (n workers i j d : ℕ) → 1 ≤ workers → i ≤ j → j < workers + 1 → get_or (block_cuts n workers) i d ≤ get_or (block_cuts n workers) j d
blocks_rise n workers i j d some before inside =
    omega (arith, at_block n workers i d (omega arith), at_block n workers j d inside, quotients_rise (i * n) (j * n) workers some (scaled n i j before))

pub block_cuts_are : (n workers : ℕ) → 1 ≤ workers → workers ≤ 64 → IsWorkerCuts n (block_cuts n workers)
block_cuts_are n workers some most =
    let many : length (block_cuts n workers) ≡ workers + 1 = length_by_position (workers + 1) (λ k. k * n / workers) in
    record {
      cut = record {
        some_part = omega arith;
        first = at_block n workers 0 0 (omega arith) ∙ first_block n workers some;
        last = rw many (last_block n workers (workers + 1 - 1) some (omega arith));
        never_falls = λ i j d before inside. blocks_rise n workers i j d some before (omega arith);
      };
      room = omega arith;
    }

pub cuts_from : (n workers : ℕ) (ends : List ℕ) → 1 ≤ workers → workers ≤ 64 → ends ≡ block_cuts n workers → IsWorkerCuts n ends
cuts_from n workers ends some most is = rw is (block_cuts_are n workers some most)
