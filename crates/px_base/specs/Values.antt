-- Values, and lists of numbers by position.
use Rattle.std.specs.Prelude.{◌≡◌, ℕ, ◌-◌, ◌<◌, ◌≤◌, Bool, ◌==◌, List, length, map, All, slice_index, if◌then◌else◌}
use Rattle.std.specs.List.{list_any, position_or_len, range_with_len}
use Rattle.px_base.specs.declared.TheConstants.{TOP, WEIGHT_LIMIT}

-- ---- values

-- A value is a whole number from 0 to TOP.
abbrev pub IsValue : ℕ → Type 0
IsValue x = x ≤ TOP

-- A weight is a whole number below its limit.
abbrev pub IsWeight : ℕ → Type 0
IsWeight w = w < WEIGHT_LIMIT

-- The list has one value for each of the n positions.
pub record IsValueList (n : ℕ) (values : List ℕ) : Type 0 where
  pub one_each : length values ≡ n
  pub in_range : All IsValue values

-- The value as far below TOP as x is above 0: it turns the order round, and twice it changes nothing.
abbrev pub flip : ℕ → ℕ
flip x = TOP - x

-- ---- lists by position

-- the positions of n vertices: 0, 1 and so on, up to but not including n
abbrev pub positions_below : ℕ → List ℕ
positions_below n = range_with_len 0 n

-- the list of n entries whose entry at v is f v
abbrev pub by_position : {X : Type 0} → ℕ → (ℕ → X) → List X
by_position n f = map f (positions_below n)

-- ---- sets of positions

-- A set of positions is a list with 1 at each member and 0 elsewhere. A position past its end is no member.
abbrev pub is_in : List ℕ → ℕ → Bool
is_in set v = slice_index set v == 1

-- the entry of such a list: 1 for a member, and 0 for another
abbrev pub one_if : Bool → ℕ
one_if member = if member then 1 else 0

-- ---- where a number stands in a list

-- x stands somewhere in the list
abbrev pub is_listed : List ℕ → ℕ → Bool
is_listed items x = list_any (λ item. item == x) items

-- the first place at which x stands in the list, or the list's length where it stands nowhere
abbrev pub place_of : List ℕ → ℕ → ℕ
place_of items x = position_or_len (λ item. item == x) items
