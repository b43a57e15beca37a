-- The load of a part is whole, and makes the part.
use Rattle.std.proofs.Common.{◌≡◌, ℕ, ◌+◌, ◌-◌, ◌≤◌, true, false, List, [], ◌∷◌, ◌++◌, length, map, get_or, refl, sym, ap, ◌∙◌, subst, inl, inr, arith}
use Rattle.std.specs.Prelude.{All, IsTrue, flat_map, ◌^◌}
use Rattle.std.specs.List.Sorted.{IsNonDecreasing, IsSortedBy}
use Rattle.std.proofs.lemmas.Bool.{cases_lt}
use Rattle.std.proofs.lemmas.List.{append-nil, map-append, get_or_append_left, get_or-append_right, length-append}
use Rattle.std.proofs.lemmas.List.Concat.{flat_map-append}
use Rattle.std.proofs.lemmas.List.Folds.{flat_map-map}
use Rattle.std.proofs.lemmas.List.Elements.{All-append, All-map, All-weaker}
use Rattle.px_base.specs.declared.graph.Part.{Part}
use Rattle.px_base.specs.declared.program.Program.{Program}
use Rattle.px_base.specs.declared.wire.Update.{Update}
use Rattle.px_base.specs.declared.frame.Triple.{Triple}
use Rattle.px_base.specs.declared.frame.Frame.{Frame}
use Rattle.px_base.specs.declared.frame.Frame.TheVariants as frame
use Rattle.px_base.specs.Frames.{kind_of}
use Rattle.px_base.specs.FrameFits.{FrameFits, IsVertex, SetupFits, is_lower_triple}
use Rattle.px_base.specs.Parts.{PartFits, is_within}
use Rattle.px_base.specs.RowTexts.{IsRowProgram}
use Rattle.mirror_places.proofs.Tabling.{few}
use Rattle.part_loads.specs.Loads.{AreInOrder, IsWhole, all_boundary, all_mirrors, all_reads, all_starts, boundary_in, is_piece, loaded_part, mirrors_in, reads_in, starts_in}
use Rattle.load_laws.specs.PartFrames.{IsLoadable, load_of, mirror_pairs, pieces_of, triples_of}
use Rattle.load_laws.proofs.Pieces.{joined}
use Rattle.load_laws.proofs.Triples.{counted, ordered, rows_are}
use Rattle.load_laws.proofs.PartEntries.{boundary_below, boundary_fits, mirrors_fit, pairs_long, reads_fit, starts_fit, targets, values_back, vertices_back}

-- ---- the frames fit, and so does the setup

pub frames_fit : (part : Part) (program : Program) (chunks most : ℕ) → IsLoadable part → 1 ≤ most → most ≤ 2 ^ 20 → All FrameFits (load_of part program chunks most).pieces
frames_fit part program chunks most h some small =
    let starts : List Frame = map frame.Starts (pieces_of most part.starts) in
    let mirrors : List Frame = map frame.Mirrors (pieces_of most (mirror_pairs part)) in
    let boundary : List Frame = map frame.Boundary (pieces_of most part.boundary) in
    let reads : List Frame = map frame.Reads (pieces_of most (triples_of part.low part.rows)) in
    All-append FrameFits (starts ++ mirrors ++ boundary) reads
    (All-append FrameFits (starts ++ mirrors) boundary (All-append FrameFits starts mirrors (starts_fit part most h.fits some small) (mirrors_fit part most h.fits some small)) (boundary_fits part most h.fits some small))
    (reads_fit part most h some small)

pub setup_fits : (part : Part) (program : Program) (chunks most : ℕ) → IsLoadable part → IsRowProgram program → 1 ≤ chunks → chunks ≤ 64 → SetupFits (load_of part program chunks most).setup
setup_fits part program chunks most h row some small = record {
  index = h.fits.index;
  range = h.fits.range;
  room = h.fits.room;
  program = row;
  chunks = (some, small);
  mirrors = few part.mirrors h.fits.mirrors_rise (All-weaker (λ m. IsVertex m × (is_within part.low part.high m ≡ false)) IsVertex (λ m both. both.0) part.mirrors h.fits.mirrors_outside);
  boundary = few part.boundary h.fits.boundary_rises (boundary_below part h.fits);
  reads = h.reads;
}

-- ---- their order

-- frames with entries, whose kinds never fall, from low to high
record IsRun (low high : ℕ) (pieces : List Frame) : Type 0 where
  each : All (λ f. IsTrue (is_piece f)) pieces
  from : All (λ f. low ≤ kind_of f) pieces
  to : All (λ f. kind_of f ≤ high) pieces
  kinds : IsNonDecreasing (map kind_of pieces)

one_kind : {X : Type 0} (make : List X → Frame) (kind : ℕ) (lists : List (List X)) → ((p : List X) → is_piece (make p) ≡ true) → ((p : List X) → kind_of (make p) ≡ kind) → IsRun kind kind (map make lists)
one_kind {X} make kind lists piece is =
    let same : All (λ n. n ≡ kind) (map kind_of (map make lists)) =
    All-map (λ (n : ℕ). n ≡ kind) kind_of (map make lists) (All-map (λ (f : Frame). kind_of f ≡ kind) make lists (λ k d inside. is (get_or lists k d))) in
    record {
      each = All-map (λ (f : Frame). IsTrue (is_piece f)) make lists (λ k d inside. piece (get_or lists k d));
      from = All-map (λ (f : Frame). kind ≤ kind_of f) make lists (λ k d inside. omega (arith, is (get_or lists k d)));
      to = All-map (λ (f : Frame). kind_of f ≤ kind) make lists (λ k d inside. omega (arith, is (get_or lists k d)));
      kinds = λ i j d low inside. omega (arith, same i d (omega arith), same j d inside);
    }

-- numbers that never fall, after others that are at most each of them
never_fall : (xs ys : List ℕ) (bound : ℕ) → IsNonDecreasing xs → IsNonDecreasing ys → All (λ n. n ≤ bound) xs → All (λ n. bound ≤ n) ys → IsNonDecreasing (xs ++ ys)
never_fall xs ys bound first second below above i j d before inside =
    let long : length (xs ++ ys) ≡ length xs + length ys = length-append xs ys in
    elim (cases_lt j (length xs)) [
      | inl left ↦ rw (get_or_append_left xs ys d j left, get_or_append_left xs ys d i (omega arith)) (first i j d before left)
      | inr right ↦ elim (cases_lt i (length xs)) [
        | inl low ↦
            omega (arith, get_or-append_right xs ys (length xs) j d refl right, get_or_append_left xs ys d i low, below i d low, above (j - length xs) d (omega arith))
        | inr high ↦
            rw (get_or-append_right xs ys (length xs) j d refl right, get_or-append_right xs ys (length xs) i d refl high) (second (i - length xs) (j - length xs) d (omega arith) (omega arith))
      ]
    ]

followed : (low middle next high : ℕ) (xs ys : List Frame) → low ≤ middle → middle ≤ next → next ≤ high → IsRun low middle xs → IsRun next high ys → IsRun low high (xs ++ ys)
followed low middle next high xs ys up more last first second = record {
  each = All-append (λ (f : Frame). IsTrue (is_piece f)) xs ys first.each second.each;
  from = All-append (λ (f : Frame). low ≤ kind_of f) xs ys first.from (All-weaker (λ (f : Frame). next ≤ kind_of f) (λ (f : Frame). low ≤ kind_of f) (λ f h. omega (arith, h)) ys second.from);
  to = All-append (λ (f : Frame). kind_of f ≤ high) xs ys (All-weaker (λ (f : Frame). kind_of f ≤ middle) (λ (f : Frame). kind_of f ≤ high) (λ f h. omega (arith, h)) xs first.to) second.to;
  kinds = subst IsNonDecreasing (sym (map-append kind_of xs ys))
      (never_fall (map kind_of xs) (map kind_of ys) next first.kinds second.kinds
      (All-map (λ (n : ℕ). n ≤ next) kind_of xs (All-weaker (λ (f : Frame). kind_of f ≤ middle) (λ (f : Frame). kind_of f ≤ next) (λ f h. omega (arith, h)) xs first.to))
      (All-map (λ (n : ℕ). next ≤ n) kind_of ys second.from));
}

pub in_order : (part : Part) (program : Program) (chunks most : ℕ) → AreInOrder (load_of part program chunks most).pieces
in_order part program chunks most =
    let starts : List Frame = map frame.Starts (pieces_of most part.starts) in
    let mirrors : List Frame = map frame.Mirrors (pieces_of most (mirror_pairs part)) in
    let boundary : List Frame = map frame.Boundary (pieces_of most part.boundary) in
    let reads : List Frame = map frame.Reads (pieces_of most (triples_of part.low part.rows)) in
    let run : IsRun 2 5 (starts ++ mirrors ++ boundary ++ reads) =
    followed 2 4 5 5 (starts ++ mirrors ++ boundary) reads (omega arith) (omega arith) (omega arith)
    (followed 2 3 4 4 (starts ++ mirrors) boundary (omega arith) (omega arith) (omega arith)
    (followed 2 2 3 3 starts mirrors (omega arith) (omega arith) (omega arith)
    (one_kind (λ p. frame.Starts p) 2 (pieces_of most part.starts) (λ p. refl) (λ p. refl)) (one_kind (λ p. frame.Mirrors p) 3 (pieces_of most (mirror_pairs part)) (λ p. refl) (λ p. refl)))
    (one_kind (λ p. frame.Boundary p) 4 (pieces_of most part.boundary) (λ p. refl) (λ p. refl)))
    (one_kind (λ p. frame.Reads p) 5 (pieces_of most (triples_of part.low part.rows)) (λ p. refl) (λ p. refl)) in
    record { each = run.each; kinds = run.kinds }

-- ---- their entries

-- frames that bring none of a kind
none_in : {X Y : Type 0} (f : Frame → List Y) (make : List X → Frame) (lists : List (List X)) → ((p : List X) → f (make p) ≡ []) → flat_map f (map make lists) ≡ []
none_in f make [] none = refl
none_in f make (p ∷ lists) none = ap (λ l. l ++ flat_map f (map make lists)) (none p) ∙ none_in f make lists none

-- the entries of frames of four kinds
four : {X : Type 0} (f : Frame → List X) (a b c d : List Frame) → flat_map f (a ++ b ++ c ++ d) ≡ flat_map f a ++ flat_map f b ++ flat_map f c ++ flat_map f d
four f a b c d =
    flat_map-append f (a ++ b ++ c) d
    ∙ ap (λ l. l ++ flat_map f d) (flat_map-append f (a ++ b) c ∙ ap (λ l. l ++ flat_map f c) (flat_map-append f a b))

pub starts_are : (part : Part) (program : Program) (chunks most : ℕ) → 1 ≤ most → all_starts (load_of part program chunks most) ≡ part.starts
starts_are part program chunks most some =
    four starts_in (map frame.Starts (pieces_of most part.starts)) (map frame.Mirrors (pieces_of most (mirror_pairs part))) (map frame.Boundary (pieces_of most part.boundary)) (map frame.Reads (pieces_of most (triples_of part.low part.rows)))
    ∙ rw (
      none_in starts_in (λ (p : List Update). frame.Mirrors p) (pieces_of most (mirror_pairs part)) (λ p. refl),
      none_in starts_in (λ (p : List ℕ). frame.Boundary p) (pieces_of most part.boundary) (λ p. refl),
      none_in starts_in (λ (p : List Triple). frame.Reads p) (pieces_of most (triples_of part.low part.rows)) (λ p. refl),
    )
    (append-nil (flat_map starts_in (map frame.Starts (pieces_of most part.starts)) ++ [] ++ []) ∙ append-nil (flat_map starts_in (map frame.Starts (pieces_of most part.starts)) ++ []) ∙ append-nil (flat_map starts_in (map frame.Starts (pieces_of most part.starts))) ∙ flat_map-map starts_in (λ (p : List ℕ). frame.Starts p) (pieces_of most part.starts) ∙ joined most part.starts some)

pub mirrors_are : (part : Part) (program : Program) (chunks most : ℕ) → 1 ≤ most → all_mirrors (load_of part program chunks most) ≡ mirror_pairs part
mirrors_are part program chunks most some =
    four mirrors_in (map frame.Starts (pieces_of most part.starts)) (map frame.Mirrors (pieces_of most (mirror_pairs part))) (map frame.Boundary (pieces_of most part.boundary)) (map frame.Reads (pieces_of most (triples_of part.low part.rows)))
    ∙ rw (
      none_in mirrors_in (λ (p : List ℕ). frame.Starts p) (pieces_of most part.starts) (λ p. refl),
      none_in mirrors_in (λ (p : List ℕ). frame.Boundary p) (pieces_of most part.boundary) (λ p. refl),
      none_in mirrors_in (λ (p : List Triple). frame.Reads p) (pieces_of most (triples_of part.low part.rows)) (λ p. refl),
    )
    (append-nil (flat_map mirrors_in (map frame.Mirrors (pieces_of most (mirror_pairs part))) ++ []) ∙ append-nil (flat_map mirrors_in (map frame.Mirrors (pieces_of most (mirror_pairs part)))) ∙ flat_map-map mirrors_in (λ (p : List Update). frame.Mirrors p) (pieces_of most (mirror_pairs part)) ∙ joined most (mirror_pairs part) some)

pub boundary_is : (part : Part) (program : Program) (chunks most : ℕ) → 1 ≤ most → all_boundary (load_of part program chunks most) ≡ part.boundary
boundary_is part program chunks most some =
    four boundary_in (map frame.Starts (pieces_of most part.starts)) (map frame.Mirrors (pieces_of most (mirror_pairs part))) (map frame.Boundary (pieces_of most part.boundary)) (map frame.Reads (pieces_of most (triples_of part.low part.rows)))
    ∙ rw (
      none_in boundary_in (λ (p : List ℕ). frame.Starts p) (pieces_of most part.starts) (λ p. refl),
      none_in boundary_in (λ (p : List Update). frame.Mirrors p) (pieces_of most (mirror_pairs part)) (λ p. refl),
      none_in boundary_in (λ (p : List Triple). frame.Reads p) (pieces_of most (triples_of part.low part.rows)) (λ p. refl),
    )
    (append-nil (flat_map boundary_in (map frame.Boundary (pieces_of most part.boundary))) ∙ flat_map-map boundary_in (λ (p : List ℕ). frame.Boundary p) (pieces_of most part.boundary) ∙ joined most part.boundary some)

pub reads_are : (part : Part) (program : Program) (chunks most : ℕ) → 1 ≤ most → all_reads (load_of part program chunks most) ≡ triples_of part.low part.rows
reads_are part program chunks most some =
    four reads_in (map frame.Starts (pieces_of most part.starts)) (map frame.Mirrors (pieces_of most (mirror_pairs part))) (map frame.Boundary (pieces_of most part.boundary)) (map frame.Reads (pieces_of most (triples_of part.low part.rows)))
    ∙ rw (
      none_in reads_in (λ (p : List ℕ). frame.Starts p) (pieces_of most part.starts) (λ p. refl),
      none_in reads_in (λ (p : List Update). frame.Mirrors p) (pieces_of most (mirror_pairs part)) (λ p. refl),
      none_in reads_in (λ (p : List ℕ). frame.Boundary p) (pieces_of most part.boundary) (λ p. refl),
    )
    (flat_map-map reads_in (λ (p : List Triple). frame.Reads p) (pieces_of most (triples_of part.low part.rows)) ∙ joined most (triples_of part.low part.rows) some)

-- ---- the part

pub part_is : (part : Part) (program : Program) (chunks most : ℕ) → IsLoadable part → 1 ≤ most → loaded_part (load_of part program chunks most) ≡ part
part_is part program chunks most h some =
    rw (
      starts_are part program chunks most some,
      mirrors_are part program chunks most some,
      boundary_is part program chunks most some,
      reads_are part program chunks most some,
      vertices_back part,
      values_back part h.fits,
      rows_are part.low (part.high - part.low) part.rows h.fits.rows,
    ) refl

pub whole : (part : Part) (program : Program) (chunks most : ℕ) → IsLoadable part → 1 ≤ most → IsWhole (load_of part program chunks most)
whole part program chunks most h some = record {
  mirrors = ap length (mirrors_are part program chunks most some) ∙ pairs_long part;
  boundary = ap length (boundary_is part program chunks most some);
  reads = ap length (reads_are part program chunks most some) ∙ counted part.low part.rows;
  order = subst (IsSortedBy is_lower_triple) (sym (reads_are part program chunks most some)) (ordered part.low part.rows h.ordered);
  targets = subst (All (λ (t : Triple). IsTrue (is_within part.low part.high t.target))) (sym (reads_are part program chunks most some)) (targets part h.fits);
  part = subst PartFits (sym (part_is part program chunks most h some)) h.fits;
}
