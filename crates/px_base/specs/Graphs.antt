-- What the edges mean: which vertex reads which, and which vertex stands first. A vertex is named by its position.
use Rattle.std.specs.Prelude.{◌≡◌, ℕ, ◌<◌, All, sum_by, Bool, not, ◌&&◌, ◌||◌, ◌==◌, nat_lt, List, [], length, map, filter, count_by, slice_index, slice_index_or, IsPermutation}
use Rattle.std.specs.List.{list_any}
use Rattle.std.specs.List.Sorted.{IsSortedBy}
use Rattle.px_base.specs.declared.graph.Edge.{Edge}
use Rattle.px_base.specs.declared.graph.Read.{Read}
use Rattle.px_base.specs.declared.graph.ReadGraph.{ReadGraph}
use Rattle.px_base.specs.declared.program.Form.{Form}
use Rattle.px_base.specs.declared.program.Form.TheVariants.{Given, Back, Simple}
use Rattle.px_base.specs.declared.program.Rank.{Rank}
use Rattle.px_base.specs.declared.program.Rank.TheVariants.{ById, ByDegree}
use Rattle.px_base.specs.declared.program.Reads.{Reads}
use Rattle.px_base.specs.declared.program.Reads.TheVariants as reads_kind
use Rattle.px_base.specs.Values.{IsWeight, by_position, positions_below}

-- ---- which reads the edges make

-- the read that the edge makes where its target reads its source
abbrev pub read_of_source : Edge → Read
read_of_source e = record { source = e.source; weight = e.weight }

-- the read that it makes where its source reads its target
abbrev pub read_of_target : Edge → Read
read_of_target e = record { source = e.target; weight = e.weight }

-- the edge has the ends u and v, in either order
abbrev pub joins : ℕ → ℕ → Edge → Bool
joins u v e = (e.source == u && e.target == v) || (e.source == v && e.target == u)

-- u and v differ, and some edge joins them
abbrev pub is_neighbour : List Edge → ℕ → ℕ → Bool
is_neighbour edges v u = not (u == v) && list_any (joins u v) edges

-- the read of u with weight 1
abbrev pub unit_read : ℕ → Read
unit_read u = record { source = u; weight = 1 }

-- The reads of v among n vertices, in some order. In the first form each target reads its source, in the second each
-- source its target; in the third any two different ends of an edge read each other once, with weight 1.
abbrev pub reads_of : Form → ℕ → List Edge → ℕ → List Read
reads_of Given n edges v = map read_of_source (filter (λ e. e.target == v) edges)
reads_of Back n edges v = map read_of_target (filter (λ e. e.source == v) edges)
reads_of Simple n edges v = map unit_read (filter (is_neighbour edges v) (positions_below n))

-- how many reads each vertex has, before any are left out
abbrev pub degrees_of : Form → ℕ → List Edge → List ℕ
degrees_of form n edges = by_position n (λ v. length (reads_of form n edges v))

-- ---- which vertex stands first

-- a stands before b: by id where its position is lower; by degree where its degree is higher, or equal and its
-- position lower
abbrev pub stands_before : Rank → List ℕ → ℕ → ℕ → Bool
stands_before ById degrees a b = nat_lt a b
stands_before ByDegree degrees a b = nat_lt (slice_index degrees b) (slice_index degrees a)
    || (slice_index degrees a == slice_index degrees b && nat_lt a b)

-- the reads of v that are kept: all, or those whose source stands before v
abbrev pub kept_reads : Reads → List ℕ → ℕ → List Read → List Read
kept_reads reads_kind.All degrees v row = row
kept_reads (reads_kind.Earlier rank) degrees v row = filter (λ r. stands_before rank degrees r.source v) row

-- ---- rows of reads

-- how many reads of the row have a source that passes the test
abbrev pub reads_passing : (ℕ → Bool) → List Read → ℕ
reads_passing test row = count_by (λ r. test r.source) row

-- the row of v; past the last row there are no reads
abbrev pub row_at : List (List Read) → ℕ → List Read
row_at rows v = slice_index_or rows v []

-- how many reads stand in all rows together
abbrev pub read_count : List (List Read) → ℕ
read_count rows = sum_by (λ row. length row) rows

-- each read of each row has a weight within its limit
abbrev pub HasWeights : List (List Read) → Type 0
HasWeights rows = All (λ row. All (λ r. IsWeight r.weight) row) rows

-- There are n rows, and each read is of one of n vertices, with a weight within its limit.
pub record RowsFit (n : ℕ) (rows : List (List Read)) : Type 0 where
  pub one_each : length rows ≡ n
  pub sources : All (λ row. All (λ r. r.source < n) row) rows
  pub weights : HasWeights rows

-- a read stands before another in a row: by its source, and then by its weight
abbrev pub is_lower_read : Read → Read → Bool
is_lower_read a b = nat_lt a.source b.source || (a.source == b.source && nat_lt a.weight b.weight)

-- the row has these reads and no others, each as often, and is in order
pub record IsRowOf (reads row : List Read) : Type 0 where
  pub same : IsPermutation reads row
  pub ordered : IsSortedBy is_lower_read row

-- ---- the graph of an edge list

-- The graph is the one of these edges over n vertices: its degrees count the reads of this form, and its rows have
-- those of them that are kept.
pub record IsGraphOf (form : Form) (reads : Reads) (n : ℕ) (edges : List Edge) (graph : ReadGraph) : Type 0 where
  pub size : graph.n ≡ n
  pub one_each : length graph.rows ≡ n
  pub degrees : graph.degrees ≡ degrees_of form n edges
  pub rows : (v : ℕ) → v < n → IsRowOf (kept_reads reads graph.degrees v (reads_of form n edges v)) (row_at graph.rows v)
