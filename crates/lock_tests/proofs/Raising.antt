-- A cell that counts one more.
use Rattle.std.proofs.Common.{◌≡◌, ◌≢◌, ℕ, zero, suc, ◌+◌, ◌-◌, ◌^◌, ◌<◌, ◌≤◌, List, [], ◌∷◌, length, map, min, refl, ap, ◌∙◌, arith, Some, get_or, slice_set}
use Rattle.std.specs.List.{slice_get}
use Rattle.seat_lock.specs.Views.{OthersStay}
use Rattle.lock_tests.specs.Tallies.{tally, raised}

module _ (job : ℕ) where
  long : (xs : List ℕ) (i v : ℕ) → length (map (tally job) (slice_set xs i v)) ≡ length (map (tally job) xs)
  long [] i v = refl
  long (x ∷ xs) zero v = refl
  long (x ∷ xs) (suc i) v = ap suc (long xs i v)

  others : (xs : List ℕ) (i v k : ℕ) → k ≢ i → slice_get (map (tally job) (slice_set xs i v)) k ≡ slice_get (map (tally job) xs) k
  others [] i v k ne = refl
  others (x ∷ xs) zero v zero ne = absurd (ne refl)
  others (x ∷ xs) zero v (suc k) ne = refl
  others (x ∷ xs) (suc i) v zero ne = refl
  others (x ∷ xs) (suc i) v (suc k) ne = others xs i v k (λ e. ne (ap suc e))

  pub others_stay : (xs : List ℕ) (i v : ℕ) → OthersStay i (map (tally job) xs) (map (tally job) (slice_set xs i v))
  others_stay xs i v = (long xs i v, others xs i v)

  pub own_rises : (xs : List ℕ) (i x v : ℕ) → i < length xs → x ≡ get_or xs i x → v ≡ min (x + 1) (2 ^ 64 - 1) → slice_get (map (tally job) (slice_set xs i v)) i ≡ raised (slice_get (map (tally job) xs) i)
  own_rises [] i x v h at is = absurd (omega arith)
  own_rises (y ∷ ys) zero x v h at is = ap (λ n. Some (tally job n)) (is ∙ ap (λ n. min (n + 1) (2 ^ 64 - 1)) at)
  own_rises (y ∷ ys) (suc i) x v h at is = own_rises ys i x v (omega arith) at is

  pub none_rises : (xs : List ℕ) (i : ℕ) → length xs ≤ i → slice_get (map (tally job) xs) i ≡ raised (slice_get (map (tally job) xs) i)
  none_rises [] i h = refl
  none_rises (x ∷ xs) zero h = absurd (omega arith)
  none_rises (x ∷ xs) (suc i) h = none_rises xs i (omega arith)
