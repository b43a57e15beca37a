-- Which masters read which place; s names a place, and k a master by its place in the part.
use Rattle.std.specs.Prelude.{◌≡◌, ℕ, ◌+◌, ◌<◌, Bool, true, List, All, length}
use Rattle.px_base.specs.Values.{is_listed}
use Rattle.px_base.specs.Graphs.{row_at}
use Rattle.px_base.specs.declared.graph.Part.{Part}
use Rattle.reader_chains.specs.declared.readers.Readers.{Readers}
use Rattle.reader_chains.specs.Readers.{readers_of}
use Rattle.px_base.specs.declared.graph.Read.{Read}
use Rattle.placed_parts.specs.Places.{master_count, placed_row}

-- master k is among the readers of the place s
abbrev pub is_reader : Readers → ℕ → ℕ → Bool
is_reader readers s k = is_listed (readers_of readers s) k

-- each reader is one of so many masters
abbrev pub AreMasters : ℕ → Readers → Type 0
AreMasters masters readers = (s : ℕ) → All (λ k. k < masters) (readers_of readers s)

-- A master has been added here and there, and nobody else: whoever read a place still does.
pub record HasGrown (reader : ℕ) (old new : Readers) : Type 0 where
  pub size : length new ≡ length old
  pub masters : (count : ℕ) → reader < count → AreMasters count old → AreMasters count new
  pub kept : (s k : ℕ) → is_reader old s k ≡ true → is_reader new s k ≡ true

-- the master is a reader of each place in this row
abbrev pub ReadsRow : Readers → ℕ → List Read → Type 0
ReadsRow readers k row = All (λ r. is_reader readers r.source k ≡ true) row

-- each master is a reader of each place in its row
pub record AreReaders (part : Part) (readers : Readers) : Type 0 where
  pub size : length readers ≡ master_count part + length part.mirrors
  pub masters : AreMasters (master_count part) readers
  pub each : (k : ℕ) → k < length part.rows → ReadsRow readers k (placed_row part (row_at part.rows k))
