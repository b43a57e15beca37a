-- What a load keeps of its frames: their entries, each kind joined.
use Rattle.std.specs.Prelude.{◌≡◌, ℕ, ◌+◌, ◌-◌, All, IsTrue, List, [], ◌++◌, length, map, slice_index_or}
use Rattle.std.specs.List.Sorted.{IsSortedBy}
use Rattle.px_base.specs.declared.graph.Read.{Read}
use Rattle.px_base.specs.declared.graph.Part.{Part}
use Rattle.px_base.specs.declared.wire.Update.{Update}
use Rattle.px_base.specs.declared.frame.Setup.{Setup}
use Rattle.px_base.specs.declared.frame.Triple.{Triple}
use Rattle.px_base.specs.declared.frame.Frame.{Frame}
use Rattle.px_base.specs.Values.{by_position}
use Rattle.px_base.specs.Frames.{kind_of}
use Rattle.px_base.specs.FrameFits.{FrameFits, SetupFits, is_lower_triple}
use Rattle.px_base.specs.Parts.{is_within}
use Rattle.part_loads.specs.Loads.{AreInOrder, LoadData, starts_in, mirrors_in, boundary_in, reads_in, all_starts, all_mirrors, all_boundary, all_reads, reads_by}

-- ---- the entries

-- entries of each kind, one after another
pub record EntryLists : Type 0 where
  pub starts : List ℕ
  pub mirrors : List Update
  pub boundary : List ℕ
  pub reads : List Triple

abbrev pub no_entries : EntryLists
no_entries = record { starts = []; mirrors = []; boundary = []; reads = [] }

-- those of one frame more
abbrev pub with_entries : EntryLists → Frame → EntryLists
with_entries lists frame = record {
  starts = lists.starts ++ starts_in frame;
  mirrors = lists.mirrors ++ mirrors_in frame;
  boundary = lists.boundary ++ boundary_in frame;
  reads = lists.reads ++ reads_in frame;
}

-- those of a load
abbrev pub entries_of : LoadData → EntryLists
entries_of load = record { starts = all_starts load; mirrors = all_mirrors load; boundary = all_boundary load; reads = all_reads load }

-- ---- what is kept

-- the kind of the last frame of a load; without others that is the setup's
abbrev pub last_kind : List Frame → ℕ
last_kind pieces = slice_index_or (map kind_of pieces) (length pieces - 1) 1

-- This setup, last kind and entries are those of the load, whose frames fit and are in order.
pub record Keeps (load : LoadData) (setup : Setup) (last : ℕ) (entries : EntryLists) : Type 0 where
  pub given : setup ≡ load.setup
  pub fits : SetupFits load.setup
  pub pieces_fit : All FrameFits load.pieces
  pub order : AreInOrder load.pieces
  pub kind : last ≡ last_kind load.pieces
  pub joined : entries ≡ entries_of load

-- ---- the part

-- There are as many entries of each kind as the setup says, and a start for each master.
pub record AreCounted (setup : Setup) (entries : EntryLists) : Type 0 where
  pub starts : length entries.starts ≡ setup.high - setup.low
  pub mirrors : length entries.mirrors ≡ setup.mirrors
  pub boundary : length entries.boundary ≡ setup.boundary
  pub reads : length entries.reads ≡ setup.reads

-- The reads never fall, and are of vertices of the range.
pub record AreRows (low high : ℕ) (triples : List Triple) : Type 0 where
  pub order : IsSortedBy is_lower_triple triples
  pub targets : All (λ t. IsTrue (is_within low high t.target)) triples

-- the rows of the range that the reads make
abbrev pub rows_by : ℕ → ℕ → List Triple → List (List Read)
rows_by low high triples = by_position (high - low) (λ k. reads_by triples (low + k))

-- the part that the setup and the entries make
abbrev pub joined_part : Setup → EntryLists → Part
joined_part setup entries = record {
  index = setup.index;
  low = setup.low;
  high = setup.high;
  rows = rows_by setup.low setup.high entries.reads;
  starts = entries.starts;
  mirrors = map (λ u. u.vertex) entries.mirrors;
  mirror_starts = map (λ u. u.value) entries.mirrors;
  boundary = entries.boundary;
}
