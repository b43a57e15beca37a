-- Rows whose reads are of vertices that stand before their reader.
use Rattle.std.specs.Prelude.{◌≢◌, ℕ, ◌<◌, ◌≤◌, All, Contains, IsTrue, List, length, slice_index}
use Rattle.px_base.specs.declared.graph.Read.{Read}
use Rattle.px_base.specs.declared.graph.ReadGraph.{ReadGraph}
use Rattle.px_base.specs.declared.program.Reads.{Reads}
use Rattle.px_base.specs.declared.program.Reads.TheVariants as reads_kind
use Rattle.px_base.specs.Graphs.{row_at, stands_before}

-- each read of the graph is of a vertex that stands before its reader in the rank of these reads; all reads have no rank
abbrev pub AreEarlier : Reads → ReadGraph → Type 0
AreEarlier reads_kind.All graph = ⊥
AreEarlier (reads_kind.Earlier rank) graph =
    (v : ℕ) → v < graph.n → All (λ r. IsTrue (stands_before rank graph.degrees r.source v)) (row_at graph.rows v)

-- The list has each of the n positions, and no others. A vertex of the list reads neither itself nor one that comes later.
pub record IsReadOrder (n : ℕ) (rows : List (List Read)) (order : List ℕ) : Type 0 where
  pub within : All (λ v. v < n) order
  pub each : (v : ℕ) → v < n → Contains order v
  pub earlier : (j k : ℕ) → j ≤ k → k < length order → All (λ r. r.source ≢ slice_index order k) (row_at rows (slice_index order j))
