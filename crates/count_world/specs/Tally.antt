-- How often each mirror is told.
use Rattle.std.specs.Prelude.{◌≡◌, ℕ, ◌+◌, ◌<◌, ◌≤◌, Bool, List, nat_lt, length, slice_index}
use Rattle.std.specs.Vec.{vec_capacity}
use Rattle.count_world.specs.declared.tally.Tally.{Tally}
use Rattle.list_laws.specs.Sets.{IsListOf}
use Rattle.px_base.specs.declared.TheConstants.{MOST_VERTICES}

-- the mirror at that place is told something
abbrev pub is_told : List ℕ → ℕ → Bool
is_told times i = nat_lt 0 (slice_index times i)

-- The list has the mirrors that are told something, and has room for all.
pub record IsTally (t : Tally) : Type 0 where
  pub few : length t.times.items ≤ MOST_VERTICES
  pub room : length t.times.items ≤ vec_capacity t.touched
  pub lists : IsListOf (length t.times.items) (is_told t.times.items) t.touched.items

-- None is told anything.
pub record IsClear (t : Tally) : Type 0 where
  pub tally : IsTally t
  pub none : (i : ℕ) → slice_index t.times.items i ≡ 0

-- Each mirror is told so many more times.
pub record RaisesTally (old new : Tally) (more : ℕ → ℕ) : Type 0 where
  pub tally : IsTally new
  pub size : length new.times.items ≡ length old.times.items
  pub times : (i : ℕ) → i < length old.times.items → slice_index new.times.items i ≡ slice_index old.times.items i + more i
