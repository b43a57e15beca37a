-- Positions within a range.
use Rattle.std.proofs.Common.{◌≡◌, ℕ, ◌<◌, ◌≤◌, true, arith}
use Rattle.std.proofs.lemmas.Bool.Decides.{nat_tests}
use Rattle.px_base.specs.Parts.{is_within}

pub within_bounds : (low high u : ℕ) → is_within low high u ≡ true → (low ≤ u) × (u < high)
within_bounds low high u told = (grind (arith, nat_tests), grind (arith, nat_tests))
