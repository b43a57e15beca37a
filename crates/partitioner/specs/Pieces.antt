-- A part by its pieces.
use Rattle.std.specs.Prelude.{ℕ, List, map, slice_index, slice_range}
use Rattle.px_base.specs.declared.graph.Read.{Read}
use Rattle.px_base.specs.declared.graph.Part.{Part}
use Rattle.px_base.specs.Parts.{low_of, high_of}

-- part i with these rows, mirrors and boundary, where the vertices have these core start values
abbrev pub part_with : List (List Read) → List ℕ → List ℕ → ℕ → List ℕ → List ℕ → Part
part_with own starts cuts i mirrors boundary = record {
  index = i;
  low = low_of cuts i;
  high = high_of cuts i;
  rows = own;
  starts = slice_range starts (low_of cuts i) (high_of cuts i);
  mirrors = mirrors;
  mirror_starts = map (slice_index starts) mirrors;
  boundary = boundary;
}
