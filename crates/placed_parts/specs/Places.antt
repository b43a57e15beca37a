-- Places of masters and mirrors: the masters of a part stand first, in order, and then its mirrors.
use Rattle.std.specs.Prelude.{◌≡◌, ℕ, ◌+◌, ◌-◌, List, map, nat_lt, slice_index, if◌then◌else◌}
use Rattle.px_base.specs.declared.graph.Part.{Part}
use Rattle.px_base.specs.declared.graph.Read.{Read}
use Rattle.px_base.specs.FlatRows.{with_source, with_sources}
use Rattle.px_base.specs.Parts.{is_within}
use Rattle.px_base.specs.Values.{place_of}

-- how many masters the part has
abbrev pub master_count : Part → ℕ
master_count part = part.high - part.low

-- the place of u, which is in the range or a mirror
abbrev pub place_among : ℕ → ℕ → List ℕ → ℕ → ℕ
place_among low high mirrors u = if is_within low high u then u - low else (high - low) + place_of mirrors u

-- the place of u, a master or a mirror of the part
abbrev pub place_in : Part → ℕ → ℕ
place_in part u = place_among part.low part.high part.mirrors u

-- the read with the place of its source in place of it
abbrev pub placed_read : Part → Read → Read
placed_read part r = with_source (place_in part) r

abbrev pub placed_row : Part → List Read → List Read
placed_row part row = map (placed_read part) row

-- the master or the mirror at place s
abbrev pub position_at : Part → ℕ → ℕ
position_at part s = if nat_lt s (master_count part) then part.low + s else slice_index part.mirrors (s - master_count part)

-- the part with the positions of its reads' sources, where it has their places
abbrev pub with_positions : Part → Part
with_positions part = record {
  index = part.index;
  low = part.low;
  high = part.high;
  rows = with_sources (position_at part) part.rows;
  starts = part.starts;
  mirrors = part.mirrors;
  mirror_starts = part.mirror_starts;
  boundary = part.boundary;
}

-- The reads have the places of their sources.
pub record IsPlaced (part : Part) : Type 0 where
  pub rows : part.rows ≡ with_sources (place_in part) (with_positions part).rows
