-- The vertices of an inbox, as they are kept.
use Rattle.std.specs.Prelude.{ℕ, ◌-◌, ◌<◌, ◌≤◌, List, All}
use Rattle.std.specs.List.{range_with_len}
use Rattle.std.specs.List.Sorted.{IsStrictlyIncreasing}
use Rattle.mirror_places.specs.Tables.{IsTableOf}
use Rattle.hub_table.specs.declared.places.Kept.{Kept}
use Rattle.hub_table.specs.declared.places.Kept.TheVariants.{Listed, Range}
use Rattle.px_base.specs.declared.TheConstants.{MOST_VERTICES}

-- the vertices, rising
abbrev pub vertices_in : Kept → List ℕ
vertices_in (Listed vertices table) = vertices.items
vertices_in (Range low high) = range_with_len low (high - low)

-- A list rises, is of vertices within the limit, and has its table. A range begins before it ends, within the limit.
abbrev pub IsKept : Kept → Type 0
IsKept (Listed vertices table) = IsStrictlyIncreasing vertices.items × All (λ v. v < MOST_VERTICES) vertices.items × IsTableOf vertices.items table
IsKept (Range low high) = (low ≤ high) × (high ≤ MOST_VERTICES)
