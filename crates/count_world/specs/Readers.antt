-- Which masters read which: for each master the list of those that read it, once for each read. k and j name masters by their
-- place in the part.
use Rattle.std.specs.Prelude.{◌≡◌, ℕ, ◌+◌, ◌-◌, ◌<◌, ◌==◌, All, length, count_by}
use Rattle.px_base.specs.declared.graph.Part.{Part}
use Rattle.px_base.specs.Graphs.{row_at, reads_passing}
use Rattle.reader_chains.specs.declared.readers.Readers.{Readers}
use Rattle.reader_chains.specs.Readers.{readers_of}

-- how often master j is among the readers of master k
abbrev pub times_listed : Readers → ℕ → ℕ → ℕ
times_listed readers k j = count_by (λ reader. reader == j) (readers_of readers k)

-- there is a list for each of so many masters, and all readers are masters
pub record AreMasters (masters : ℕ) (readers : Readers) : Type 0 where
  pub size : length readers ≡ masters
  pub inside : (k : ℕ) → All (λ reader. reader < masters) (readers_of readers k)

-- The lists have grown: master j is among the readers of master k so many more times.
pub record HasGrown (masters : ℕ) (old new : Readers) (more : ℕ → ℕ → ℕ) : Type 0 where
  pub still : AreMasters masters new
  pub times : (k j : ℕ) → k < masters → times_listed new k j ≡ times_listed old k j + more k j

-- how often the row of master j reads master k
abbrev pub times_in_row : Part → ℕ → ℕ → ℕ
times_in_row part k j = reads_passing (λ u. u == part.low + k) (row_at part.rows j)

-- The list of each master has each reader as often as it reads the master.
pub record AreReaders (part : Part) (readers : Readers) : Type 0 where
  pub masters : AreMasters (part.high - part.low) readers
  pub times : (k j : ℕ) → k < part.high - part.low → j < part.high - part.low → times_listed readers k j ≡ times_in_row part k j
