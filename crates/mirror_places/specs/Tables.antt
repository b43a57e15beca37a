-- The table of a rising list of positions, in blocks of 16.
use Rattle.std.specs.Prelude.{◌≡◌, ℕ, ◌+◌, ◌-◌, ◌*◌, ◌/◌, ◌==◌, ◌<◌, ◌≤◌, List, length, slice_index, if◌then◌else◌}

-- so many entries of the list are below the bound, and they stand first
pub record CountsBelow (positions : List ℕ) (bound count : ℕ) : Type 0 where
  pub within : count ≤ length positions
  pub before : (k : ℕ) → k < count → slice_index positions k < bound
  pub from : (k : ℕ) → count ≤ k → k < length positions → bound ≤ slice_index positions k

-- The entry at b is how many positions of the list are below 16 * b. At the last entry all are.
pub record IsTableOf (positions table : List ℕ) : Type 0 where
  pub some : 0 < length table
  pub each : (b : ℕ) → b < length table → CountsBelow positions (16 * b) (slice_index table b)
  pub last : slice_index table (length table - 1) ≡ length positions

-- how many entries the table has: one for each block up to that of the greatest position, and one more
abbrev pub table_size : List ℕ → ℕ
table_size positions = if length positions == 0 then 1 else slice_index positions (length positions - 1) / 16 + 2
