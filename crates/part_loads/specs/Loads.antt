-- What the frames of a load bring, and the part that they make.
use Rattle.std.specs.Prelude.{◌≡◌, ℕ, ◌+◌, ◌-◌, ◌==◌, Bool, true, false, All, IsTrue, List, [], ◌∷◌, ◌++◌, length, map, filter, flat_map}
use Rattle.std.specs.List.Sorted.{IsNonDecreasing, IsSortedBy}
use Rattle.px_base.specs.declared.graph.Read.{Read}
use Rattle.px_base.specs.declared.graph.Part.{Part}
use Rattle.px_base.specs.declared.wire.Update.{Update}
use Rattle.px_base.specs.declared.frame.Setup.{Setup}
use Rattle.px_base.specs.declared.frame.Triple.{Triple}
use Rattle.px_base.specs.declared.frame.Frame.{Frame}
use Rattle.px_base.specs.declared.frame.Frame.TheVariants as frame
use Rattle.px_base.specs.Values.{by_position}
use Rattle.px_base.specs.Frames.{kind_of}
use Rattle.px_base.specs.FrameFits.{is_lower_triple}
use Rattle.px_base.specs.Parts.{PartFits, is_within}

-- ---- the frames with entries

-- the entries that a frame brings, of each kind
abbrev pub starts_in : Frame → List ℕ
starts_in (frame.Starts values) = values
starts_in _ = []

abbrev pub mirrors_in : Frame → List Update
mirrors_in (frame.Mirrors pairs) = pairs
mirrors_in _ = []

abbrev pub boundary_in : Frame → List ℕ
boundary_in (frame.Boundary vertices) = vertices
boundary_in _ = []

abbrev pub reads_in : Frame → List Triple
reads_in (frame.Reads triples) = triples
reads_in _ = []

-- the frame brings entries of one of these kinds
abbrev pub is_piece : Frame → Bool
is_piece (frame.Starts values) = true
is_piece (frame.Mirrors pairs) = true
is_piece (frame.Boundary vertices) = true
is_piece (frame.Reads triples) = true
is_piece _ = false

-- Frames that bring the entries of a load, in their order: starts, mirrors, boundary and reads, each kind in any number of
-- frames.
pub record AreInOrder (pieces : List Frame) : Type 0 where
  pub each : All (λ f. IsTrue (is_piece f)) pieces
  pub kinds : IsNonDecreasing (map kind_of pieces)

-- ---- a load

-- a setup, and the frames with entries that followed it
pub record LoadData : Type 0 where
  pub setup : Setup
  pub pieces : List Frame

abbrev pub begun_with : Setup → LoadData
begun_with setup = record { setup = setup; pieces = [] }

-- one frame more
abbrev pub with_piece : LoadData → Frame → LoadData
with_piece load piece = record { setup = load.setup; pieces = load.pieces ++ piece ∷ [] }

-- all entries of each kind, one after another
abbrev pub all_starts : LoadData → List ℕ
all_starts load = flat_map starts_in load.pieces

abbrev pub all_mirrors : LoadData → List Update
all_mirrors load = flat_map mirrors_in load.pieces

abbrev pub all_boundary : LoadData → List ℕ
all_boundary load = flat_map boundary_in load.pieces

abbrev pub all_reads : LoadData → List Triple
all_reads load = flat_map reads_in load.pieces

-- ---- the part

abbrev pub read_of : Triple → Read
read_of t = record { source = t.source; weight = t.weight }

-- the reads of v among the triples, in their order
abbrev pub reads_by : List Triple → ℕ → List Read
reads_by triples v = map read_of (filter (λ t. t.target == v) triples)

-- the part that the load makes
abbrev pub loaded_part : LoadData → Part
loaded_part load = record {
  index = load.setup.index;
  low = load.setup.low;
  high = load.setup.high;
  rows = by_position (load.setup.high - load.setup.low) (λ k. reads_by (all_reads load) (load.setup.low + k));
  starts = all_starts load;
  mirrors = map (λ u. u.vertex) (all_mirrors load);
  mirror_starts = map (λ u. u.value) (all_mirrors load);
  boundary = all_boundary load;
}

-- The load is whole: it has as many entries of each kind as its setup says, its reads never fall and are of masters of the
-- part, and the part fits. So it has a start for each master, and its mirrors and its boundary rise across its frames.
pub record IsWhole (load : LoadData) : Type 0 where
  pub mirrors : length (all_mirrors load) ≡ load.setup.mirrors
  pub boundary : length (all_boundary load) ≡ load.setup.boundary
  pub reads : length (all_reads load) ≡ load.setup.reads
  pub order : IsSortedBy is_lower_triple (all_reads load)
  pub targets : All (λ t. IsTrue (is_within load.setup.low load.setup.high t.target)) (all_reads load)
  pub part : PartFits (loaded_part load)
