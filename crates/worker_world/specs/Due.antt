-- Which masters are due to be renewed.
use Rattle.std.specs.Prelude.{◌≡◌, ℕ, ◌+◌, ◌<◌, ◌||◌, Bool, true, false, List, length, slice_index, slice_index_or}
use Rattle.px_base.specs.declared.graph.Part.{Part}
use Rattle.px_base.specs.declared.wire.Update.{Update}
use Rattle.px_base.specs.Values.{place_of}
use Rattle.worker_world.specs.declared.due.Due.{Due}
use Rattle.reader_chains.specs.declared.readers.Readers.{Readers}
use Rattle.worker_world.specs.Readers.{is_reader}
use Rattle.placed_parts.specs.Places.{master_count}

-- all masters are due, or the k-th is marked
abbrev pub is_due : Due → ℕ → Bool
is_due due k = due.all || slice_index_or due.marked.items k false

-- what was due still is, and no mark has gone
pub record StaysDue (old new : Due) : Type 0 where
  pub size : length new.marked.items ≡ length old.marked.items
  pub all : new.all ≡ false → old.all ≡ false
  pub kept : (k : ℕ) → is_due new k ≡ false → is_due old k ≡ false

-- A place has told its readers where its value changes: of each that isn't due the value is the one before.
abbrev pub IsTold : Readers → Due → ℕ → ℕ → ℕ → Type 0
IsTold readers due s before after = (k : ℕ) → is_reader readers s k ≡ true → is_due due k ≡ false → after ≡ before

-- each of so many places has
abbrev pub AreTold : ℕ → Readers → Due → List ℕ → List ℕ → Type 0
AreTold places readers due before after = (s : ℕ) → s < places → IsTold readers due s (slice_index before s) (slice_index after s)

-- the place of the update's mirror has, where the update changes its value among these
abbrev pub IsUpdateTold : Part → Readers → Due → List ℕ → Update → Type 0
IsUpdateTold part readers due values u = let s = master_count part + place_of part.mirrors u.vertex in IsTold readers due s (slice_index values s) u.value
