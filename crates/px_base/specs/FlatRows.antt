-- Rows of reads in three flat lists: where each row begins, and the sources and the weights of all reads, row after row.
use Rattle.std.specs.Prelude.{◌≡◌, ℕ, ◌+◌, ◌-◌, ◌<◌, ◌≤◌, List, [], ◌∷◌, length, drop, map, slice_index, slice_index_or, slice_range}
use Rattle.std.specs.List.Sorted.{IsNonDecreasing}
use Rattle.px_base.specs.declared.graph.Read.{Read}
use Rattle.px_base.specs.declared.TheConstants.{MOST_READS}
use Rattle.px_base.specs.Values.{by_position}

-- the read of this source with this weight
abbrev pub read_with : ℕ → ℕ → Read
read_with source weight = record { source = source; weight = weight }

-- the read at place k of a row; past the end it is one of vertex 0 with weight 0
abbrev pub read_at : List Read → ℕ → Read
read_at row k = slice_index_or row k (read_with 0 0)

-- the reads that have their sources and their weights at the same places of two lists
abbrev pub reads_in : List ℕ → List ℕ → List Read
reads_in [] weights = []
reads_in (s ∷ sources) [] = []
reads_in (s ∷ sources) (w ∷ weights) = read_with s w ∷ reads_in sources weights

-- the row of v, which goes from its start to the start after it
abbrev pub row_in : List ℕ → List ℕ → List ℕ → ℕ → List Read
row_in starts sources weights v = slice_range (reads_in sources weights) (slice_index starts v) (slice_index starts (v + 1))

-- all rows: there is one start more than there are rows
abbrev pub rows_in : List ℕ → List ℕ → List ℕ → List (List Read)
rows_in starts sources weights = by_position (length starts - 1) (row_in starts sources weights)

-- The starts never fall, from 0 to the number of reads, and each read has a source and a weight. Where there are no rows
-- there may be no start either.
pub record AreFlat (starts sources weights : List ℕ) : Type 0 where
  pub first : slice_index starts 0 ≡ 0
  pub never_fall : IsNonDecreasing starts
  pub last : slice_index starts (length starts - 1) ≡ length sources
  pub both : length weights ≡ length sources
  pub room : length sources ≤ MOST_READS

-- ---- while rows are made

-- rows that are done, and the reads of the next one so far
pub record OpenRows : Type 0 where
  pub done : List (List Read)
  pub open_row : List Read

-- the same in flat lists: the last start is where the open row begins
abbrev pub open_in : List ℕ → List ℕ → List ℕ → OpenRows
open_in starts sources weights = record {
  done = rows_in starts sources weights;
  open_row = drop (slice_index starts (length starts - 1)) (reads_in sources weights);
}

-- The starts never fall, from 0 to at most the number of reads, and each read has a source and a weight.
pub record AreOpen (starts sources weights : List ℕ) : Type 0 where
  pub some : 0 < length starts
  pub first : slice_index starts 0 ≡ 0
  pub never_fall : IsNonDecreasing starts
  pub last : slice_index starts (length starts - 1) ≤ length sources
  pub both : length weights ≡ length sources
  pub room : length sources ≤ MOST_READS

-- ---- other sources

-- the read with another source, by this function
abbrev pub with_source : (ℕ → ℕ) → Read → Read
with_source f r = record { source = f r.source; weight = r.weight }

-- the rows with other sources
abbrev pub with_sources : (ℕ → ℕ) → List (List Read) → List (List Read)
with_sources f rows = map (λ row. map (with_source f) row) rows
