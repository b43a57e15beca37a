-- The part that a load makes.
use Rattle.std.proofs.Common.{◌≡◌, ℕ, ◌+◌, ◌-◌, List, [], ◌∷◌, sym, ap, ◌∙◌, subst}
use Rattle.std.specs.Prelude.{All, flat_map, ◌==◌, filter}
use Rattle.std.proofs.lemmas.List.Elements.{All-nil, All-head, All-tail, All-append, All-map, All-filter, All-weaker}
use Rattle.px_base.specs.declared.graph.Read.{Read}
use Rattle.px_base.specs.declared.graph.Part.{Part}
use Rattle.px_base.specs.declared.frame.Setup.{Setup}
use Rattle.px_base.specs.declared.frame.Triple.{Triple}
use Rattle.px_base.specs.declared.frame.Frame.{Frame}
use Rattle.px_base.specs.declared.frame.Frame.TheVariants as frame
use Rattle.px_base.specs.Values.{IsWeight, positions_below}
use Rattle.px_base.specs.FrameFits.{FrameFits, IsVertex, IsWord}
use Rattle.px_base.specs.Graphs.{HasWeights}
use Rattle.px_base.specs.Parts.{PartFits}
use Rattle.part_loads.specs.Loads.{IsWhole, LoadData, all_reads, loaded_part, reads_by, reads_in, read_of}
use Rattle.part_loads.specs.Keeping.{AreCounted, AreRows, EntryLists, Keeps, entries_of, joined_part, rows_by}

-- the part is the load's
pub part_is : (load : LoadData) (setup : Setup) (last : ℕ) (entries : EntryLists) → Keeps load setup last entries → joined_part setup entries ≡ loaded_part load
part_is load setup last entries h = ap (λ (s : Setup). joined_part s entries) h.given ∙ ap (joined_part load.setup) h.joined

-- ---- whole or not

pub fits_if_whole : (load : LoadData) (setup : Setup) (last : ℕ) (entries : EntryLists) (part : Part) → Keeps load setup last entries → part ≡ joined_part setup entries → IsWhole load → PartFits part
fits_if_whole load setup last entries part h e whole = subst PartFits (sym (e ∙ part_is load setup last entries h)) whole.part

pub whole_of : (load : LoadData) (setup : Setup) (last : ℕ) (entries : EntryLists) (part : Part) → Keeps load setup last entries → AreCounted setup entries → AreRows setup.low setup.high entries.reads
    → part ≡ joined_part setup entries → PartFits part → IsWhole load
whole_of load setup last entries part h counted rows e fits =
    let count : AreCounted load.setup (entries_of load) = subst (AreCounted load.setup) h.joined (subst (λ (s : Setup). AreCounted s entries) h.given counted) in
    let rise : AreRows load.setup.low load.setup.high (all_reads load) =
    subst (λ (l : EntryLists). AreRows load.setup.low load.setup.high l.reads) h.joined (subst (λ (s : Setup). AreRows s.low s.high entries.reads) h.given rows) in
    record {
      mirrors = count.mirrors;
      boundary = count.boundary;
      reads = count.reads;
      order = rise.order;
      targets = rise.targets;
      part = subst PartFits (e ∙ part_is load setup last entries h) fits;
    }

-- ---- weights

abbrev HasWord : Triple → Type 0
HasWord t = IsWord t.weight

words_in : (f : Frame) → FrameFits f → All HasWord (reads_in f)
words_in (frame.Reads triples) fits =
    All-weaker (λ (t : Triple). IsVertex t.target × IsVertex t.source × IsWord t.weight) HasWord (λ t h. h.2) triples fits.2
words_in (frame.Setup s) fits = All-nil HasWord
words_in (frame.Starts values) fits = All-nil HasWord
words_in (frame.Mirrors pairs) fits = All-nil HasWord
words_in (frame.Boundary vertices) fits = All-nil HasWord
words_in frame.Ready fits = All-nil HasWord
words_in (frame.Order order) fits = All-nil HasWord
words_in (frame.Answer answer) fits = All-nil HasWord

words_of : (pieces : List Frame) → All FrameFits pieces → All HasWord (flat_map reads_in pieces)
words_of [] fit = All-nil HasWord
words_of (f ∷ pieces) fit =
    All-append HasWord (reads_in f) (flat_map reads_in pieces) (words_in f (All-head FrameFits f pieces fit)) (words_of pieces (All-tail FrameFits f pieces fit))

pub words_kept : (load : LoadData) (setup : Setup) (last : ℕ) (entries : EntryLists) → Keeps load setup last entries → All HasWord entries.reads
words_kept load setup last entries h = subst (λ (l : EntryLists). All HasWord l.reads) (sym h.joined) (words_of load.pieces h.pieces_fit)

abbrev HasWeight : Read → Type 0
HasWeight r = IsWeight r.weight

row_weights : (triples : List Triple) (v : ℕ) → All HasWord triples → All HasWeight (reads_by triples v)
row_weights triples v words =
    All-map HasWeight read_of (filter (λ t. t.target == v) triples) (All-filter (λ (t : Triple). t.target == v) HasWord triples words)

rows_weights : (low high : ℕ) (triples : List Triple) → All HasWord triples → HasWeights (rows_by low high triples)
rows_weights low high triples words =
    All-map (All HasWeight) (λ (k : ℕ). reads_by triples (low + k)) (positions_below (high - low)) (λ k d below. row_weights triples (low + _) words)

pub weights_of : (load : LoadData) (setup : Setup) (last : ℕ) (entries : EntryLists) (part : Part) → Keeps load setup last entries → part ≡ joined_part setup entries → HasWeights part.rows
weights_of load setup last entries part h e =
    subst (λ (p : Part). HasWeights p.rows) (sym (e ∙ part_is load setup last entries h))
    (rows_weights load.setup.low load.setup.high (all_reads load) (words_of load.pieces h.pieces_fit))
