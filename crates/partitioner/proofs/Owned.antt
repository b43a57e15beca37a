-- Each position has an owner, and the cuts are in order.
use Rattle.std.proofs.Common.{ℕ, zero, suc, add-one, ◌+◌, ◌-◌, ◌<◌, ◌≤◌, List, length, get_or, arith, inl, inr}
use Rattle.std.proofs.lemmas.Bool.{cases_lt}
use Rattle.px_base.specs.Parts.{IsCuts, IsOwner, low_of, high_of, part_count}

-- the first part that ends above v has it
owner_within : (n : ℕ) (cuts : List ℕ) (v k : ℕ) → IsCuts n cuts → k ≤ part_count cuts → v < get_or cuts k 0 → (i : ℕ) × IsOwner cuts v i
owner_within n cuts v zero c most below = absurd (omega (arith, c.first))
owner_within n cuts v (suc k) c most below = elim (cases_lt v (get_or cuts k 0)) [
  | inl before ↦ owner_within n cuts v k c (omega arith) before
  | inr from ↦ (k, record { below = omega arith; from = from; to = rw add-one below })
]

pub an_owner : (n : ℕ) (cuts : List ℕ) (v : ℕ) → IsCuts n cuts → v < n → (i : ℕ) × IsOwner cuts v i
an_owner n cuts v c below = owner_within n cuts v (length cuts - 1) c (omega arith) (omega (arith, c.last))

-- ---- the order of the parts

pub low_below_high : (n : ℕ) (cuts : List ℕ) (i : ℕ) → IsCuts n cuts → i < part_count cuts → low_of cuts i ≤ high_of cuts i
low_below_high n cuts i c below = c.never_falls i (i + 1) 0 (omega arith) (omega arith)

pub high_inside : (n : ℕ) (cuts : List ℕ) (i : ℕ) → IsCuts n cuts → i < part_count cuts → high_of cuts i ≤ n
high_inside n cuts i c below = omega (arith, c.never_falls (i + 1) (length cuts - 1) 0 (omega arith) (omega arith), c.last)

pub high_before_low : (n : ℕ) (cuts : List ℕ) (i j : ℕ) → IsCuts n cuts → i < j → j < part_count cuts → high_of cuts i ≤ low_of cuts j
high_before_low n cuts i j c before below = c.never_falls (i + 1) j 0 (omega arith) (omega arith)
