-- The entries of a part that fits, and the frames that have them.
use Rattle.std.proofs.Common.{◌≡◌, ℕ, ◌+◌, ◌-◌, ◌<◌, ◌≤◌, Bool, true, false, List, [], ◌∷◌, length, map, get_or, refl, sym, ap, ◌∙◌, subst, arith}
use Rattle.std.specs.Prelude.{All, IsTrue, ◌^◌, ◌||◌}
use Rattle.std.specs.List.Sorted.{IsStrictlyIncreasing}
use Rattle.std.proofs.lemmas.Bool.Decides.{nat_tests}
use Rattle.std.proofs.lemmas.List.Elements.{All-map, All-weaker}
use Rattle.std.proofs.lemmas.List.FromFn.{fill_by_all}
use Rattle.px_base.specs.declared.graph.Part.{Part}
use Rattle.px_base.specs.declared.wire.Update.{Update}
use Rattle.px_base.specs.declared.frame.Triple.{Triple}
use Rattle.px_base.specs.declared.frame.Frame.TheVariants as frame
use Rattle.px_base.specs.declared.TheConstants.{MOST_VERTICES}
use Rattle.px_base.specs.Values.{IsValue, is_listed, positions_below}
use Rattle.px_base.specs.FrameFits.{FrameFits, IsVertex, IsWord, is_lower_triple}
use Rattle.px_base.specs.Graphs.{row_at}
use Rattle.px_base.specs.Parts.{PartFits, is_known, is_within}
use Rattle.px_base.proofs.Positions.{length_by_position, at_position}
use Rattle.px_base.proofs.Members.{listed_contains, of_member}
use Rattle.load_laws.specs.PartFrames.{IsLoadable, mirror_pairs, pieces_of, triples_of}
use Rattle.load_laws.proofs.Pieces.{each_piece, held, mapped, rising, sizes, sorted}
use Rattle.load_laws.proofs.Triples.{each_triple, ordered}

-- ---- mirrors

map_twice : {X Y Z : Type 0} (g : X → Y) (f : Y → Z) (xs : List X) → map f (map g xs) ≡ map (λ x. f (g x)) xs
map_twice g f [] = refl
map_twice g f (x ∷ xs) = ap (λ l. f (g x) ∷ l) (map_twice g f xs)

pub pairs_long : (part : Part) → length (mirror_pairs part) ≡ length part.mirrors
pairs_long part = length_by_position (length part.mirrors) (λ k. record { vertex = get_or part.mirrors k 0; value = get_or part.mirror_starts k 0 })

pair_at : (part : Part) (k : ℕ) (d : Update) → k < length part.mirrors → get_or (mirror_pairs part) k d ≡ record { vertex = get_or part.mirrors k 0; value = get_or part.mirror_starts k 0 }
pair_at part k d inside = at_position (length part.mirrors) (λ k. record { vertex = get_or part.mirrors k 0; value = get_or part.mirror_starts k 0 }) k d inside

pub vertices_back : (part : Part) → map (λ u. u.vertex) (mirror_pairs part) ≡ part.mirrors
vertices_back part =
    let n : ℕ = length part.mirrors in
    map_twice {Y = Update} (λ (k : ℕ). record { vertex = get_or part.mirrors k 0; value = get_or part.mirror_starts k 0 }) (λ (u : Update). u.vertex) (positions_below n)
    ∙ sym (fill_by_all (λ k. get_or part.mirrors k 0) part.mirrors n 0 refl (λ k less. refl))

pub values_back : (part : Part) → PartFits part → map (λ u. u.value) (mirror_pairs part) ≡ part.mirror_starts
values_back part fits =
    let n : ℕ = length part.mirrors in
    map_twice {Y = Update} (λ (k : ℕ). record { vertex = get_or part.mirrors k 0; value = get_or part.mirror_starts k 0 }) (λ (u : Update). u.value) (positions_below n)
    ∙ sym (fill_by_all (λ k. get_or part.mirror_starts k 0) part.mirror_starts n 0 fits.mirror_starts (λ k less. refl))

each_pair : (part : Part) → PartFits part → All (λ u. IsVertex u.vertex × IsValue u.value) (mirror_pairs part)
each_pair part fits k d inside =
    let below : k < length part.mirrors = omega (arith, pairs_long part) in
    let long = fits.mirror_starts in
    subst (λ (u : Update). IsVertex u.vertex × IsValue u.value) (sym (pair_at part k d below))
    ((fits.mirrors_outside k 0 below).0, fits.mirror_values k 0 (omega arith))

-- ---- vertices

within_vertex : (low high u : ℕ) → high ≤ MOST_VERTICES → is_within low high u ≡ true → u < MOST_VERTICES
within_vertex low high u room inside = grind (arith, nat_tests)

pub boundary_below : (part : Part) → PartFits part → All IsVertex part.boundary
boundary_below part fits =
    All-weaker (λ v. is_within part.low part.high v ≡ true) IsVertex (λ v inside. within_vertex part.low part.high v fits.room inside) part.boundary fits.boundary_inside

-- a vertex that the part has or mirrors
known_vertex : (part : Part) (u : ℕ) → PartFits part → is_known part u ≡ true → u < MOST_VERTICES
known_vertex part u fits known = by_test (is_within part.low part.high u) refl known
  where
    by_test : (b : Bool) → is_within part.low part.high u ≡ b → (b || is_listed part.mirrors u) ≡ true → u < MOST_VERTICES
    by_test true is h = within_vertex part.low part.high u fits.room is
    by_test false is h = (of_member (λ m. (m < MOST_VERTICES) × (is_within part.low part.high m ≡ false)) part.mirrors u fits.mirrors_outside (listed_contains part.mirrors u h)).0

-- ---- reads

master : (low high k : ℕ) → k < high - low → is_within low high (low + k) ≡ true
master low high k inside = grind (arith, nat_tests)

-- target and source are positions, and the weight has four bytes
abbrev IsPlain : Triple → Type 0
IsPlain t = IsVertex t.target × IsVertex t.source × IsWord t.weight

plain : (part : Part) → IsLoadable part → All IsPlain (triples_of part.low part.rows)
plain part h =
    let fits : PartFits part = h.fits in
    let long = fits.rows in
    let room = fits.room in
    each_triple IsPlain part.low part.rows (λ k less j d inside.
    (omega arith, known_vertex part (get_or (row_at part.rows k) j d).source fits (fits.sources k [] less j d inside), h.weights k [] less j d inside))

pub targets : (part : Part) → PartFits part → All (λ t. IsTrue (is_within part.low part.high t.target)) (triples_of part.low part.rows)
targets part fits =
    let long = fits.rows in
    each_triple (λ (t : Triple). IsTrue (is_within part.low part.high t.target)) part.low part.rows (λ k less j d inside. master part.low part.high k (omega arith))

-- ---- the frames fit

pub starts_fit : (part : Part) (most : ℕ) → PartFits part → 1 ≤ most → most ≤ 2 ^ 20 → All FrameFits (map frame.Starts (pieces_of most part.starts))
starts_fit part most fits some few =
    All-map FrameFits (λ (p : List ℕ). frame.Starts p) (pieces_of most part.starts)
    (each_piece (λ (p : List ℕ). FrameFits (frame.Starts p)) most part.starts (λ k less. (sizes most part.starts k some few less, held IsValue most part.starts k fits.values)))

pub mirrors_fit : (part : Part) (most : ℕ) → PartFits part → 1 ≤ most → most ≤ 2 ^ 20 → All FrameFits (map frame.Mirrors (pieces_of most (mirror_pairs part)))
mirrors_fit part most fits some few =
    let pairs : List Update = mirror_pairs part in
    All-map FrameFits (λ (p : List Update). frame.Mirrors p) (pieces_of most pairs)
    (each_piece (λ (p : List Update). FrameFits (frame.Mirrors p)) most pairs (λ k less. (
      sizes most pairs k some few less,
      record {
        rising = subst IsStrictlyIncreasing (sym (mapped (λ (u : Update). u.vertex) most pairs k))
            (rising most (map (λ (u : Update). u.vertex) pairs) k (subst IsStrictlyIncreasing (sym (vertices_back part)) fits.mirrors_rise));
        each = held (λ (u : Update). IsVertex u.vertex × IsValue u.value) most pairs k (each_pair part fits);
      },
    )))

pub boundary_fits : (part : Part) (most : ℕ) → PartFits part → 1 ≤ most → most ≤ 2 ^ 20 → All FrameFits (map frame.Boundary (pieces_of most part.boundary))
boundary_fits part most fits some few =
    All-map FrameFits (λ (p : List ℕ). frame.Boundary p) (pieces_of most part.boundary)
    (each_piece (λ (p : List ℕ). FrameFits (frame.Boundary p)) most part.boundary
    (λ k less. (sizes most part.boundary k some few less, rising most part.boundary k fits.boundary_rises, held IsVertex most part.boundary k (boundary_below part fits))))

pub reads_fit : (part : Part) (most : ℕ) → IsLoadable part → 1 ≤ most → most ≤ 2 ^ 20 → All FrameFits (map frame.Reads (pieces_of most (triples_of part.low part.rows)))
reads_fit part most h some few =
    let triples : List Triple = triples_of part.low part.rows in
    All-map FrameFits (λ (p : List Triple). frame.Reads p) (pieces_of most triples)
    (each_piece (λ (p : List Triple). FrameFits (frame.Reads p)) most triples
    (λ k less. (sizes most triples k some few less, sorted is_lower_triple most triples k (ordered part.low part.rows h.ordered), held IsPlain most triples k (plain part h))))
