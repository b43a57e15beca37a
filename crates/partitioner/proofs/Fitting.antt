-- Each part of fitting rows fits.
use Rattle.std.proofs.Common.{◌≡◌, ℕ, ◌+◌, ◌-◌, ◌<◌, ◌≤◌, Bool, true, false, List, length, map, get_or, drop, refl, sym, ap, subst, ◌∙◌, arith, length-take, length-drop, eqb-true, eq-eqb}
use Rattle.std.proofs.lemmas.List.{length-map}
use Rattle.std.proofs.lemmas.List.Folds.{list_any_at}
use Rattle.std.proofs.lemmas.Map.Views.{any-filter_same}
use Rattle.std.specs.Prelude.{All, not, ◌==◌, ◌&&◌, ◌||◌, filter, slice_index, slice_range}
use Rattle.std.specs.List.{list_any, range_with_len}
use Rattle.std.proofs.lemmas.List.Elements.{All-take, All-drop, All-filter, All-map, filter_passes}
use Rattle.std.proofs.lemmas.List.Kept.{IsStrictlyIncreasing-filter}
use Rattle.std.proofs.lemmas.List.Sums.{sum_by-take-le, sum_by-take-drop}
use Rattle.std.proofs.lemmas.List.FromFn.{length-range_with_len, get_or-range_with_len}
use Rattle.std.specs.Prelude.{Result, Ok, Err, IfOk}
use Rattle.px_base.specs.declared.TheConstants.{MOST_VERTICES}
use Rattle.px_base.specs.declared.graph.Read.{Read}
use Rattle.px_base.specs.declared.graph.Part.{Part}
use Rattle.px_base.specs.declared.memory.Memory.{Memory}
use Rattle.px_base.specs.Values.{IsValue, positions_below, is_listed}
use Rattle.px_base.specs.Graphs.{RowsFit, read_count}
use Rattle.px_base.specs.Parts.{IsCuts, IsWorkerCuts, PartFits, low_of, high_of, part_count, is_within, is_master, is_mirror, is_routed, part_rows, part_of, mirrors_of, boundary_of, route_of, reads_from}
use Rattle.px_base.proofs.Members.{range_rises}
use Rattle.partitioner.specs.Pieces.{part_with}
use Rattle.partitioner.proofs.Owned.{low_below_high, high_inside}
use Rattle.partitioner.proofs.Found.{position_has}
use Rattle.partitioner.proofs.Boundaries.{within}

range_holds : (P : ℕ → Type 0) (a n : ℕ) → ((v : ℕ) → a ≤ v → v < a + n → P v) → All P (range_with_len a n)
range_holds P a n each k d inside =
    let few : k < n = omega (arith, length-range_with_len a n) in
    rw (get_or-range_with_len a n k d few) (each (a + k) (omega arith) (omega arith))

pub part_length : {X : Type 0} (xs : List X) (low high : ℕ) → high ≤ length xs → length (slice_range xs low high) ≡ high - low
part_length xs low high inside = omega (arith, length-take (high - low) (drop low xs), length-drop low xs)

pub part_holds : {X : Type 0} (P : X → Type 0) (xs : List X) (low high : ℕ) → All P xs → All P (slice_range xs low high)
part_holds P xs low high each = All-take P (high - low) (drop low xs) (All-drop P low xs each)

pub fewer_reads : (rows : List (List Read)) (low high : ℕ) → read_count (slice_range rows low high) ≤ read_count rows
fewer_reads rows low high = omega (arith, sum_by-take-le (λ (row : List Read). length row) (drop low rows) (high - low), sum_by-take-drop (λ (row : List Read). length row) rows low)

not_first : (a b : Bool) → (not a && b) ≡ true → a ≡ false
not_first true b h = absurd (cc)
not_first false b h = refl

-- a mirror is a vertex outside the range
pub mirrors_below : (rows : List (List Read)) (cuts : List ℕ) (i : ℕ) → All (λ m. m < length rows) (mirrors_of rows cuts i)
mirrors_below rows cuts i = All-filter (is_mirror rows cuts i) (λ m. m < length rows) (positions_below (length rows)) (range_holds (λ m. m < length rows) 0 (length rows) (λ v from to. omega arith))

mirrors_outside : (rows : List (List Read)) (cuts : List ℕ) (i : ℕ) → length rows ≤ MOST_VERTICES → All (λ m. (m < MOST_VERTICES) × (is_within (low_of cuts i) (high_of cuts i) m ≡ false)) (mirrors_of rows cuts i)
mirrors_outside rows cuts i room k d inside =
    let low : get_or (mirrors_of rows cuts i) k d < length rows = mirrors_below rows cuts i k d inside in
    let is : is_mirror rows cuts i (get_or (mirrors_of rows cuts i) k d) ≡ true = filter_passes (is_mirror rows cuts i) (positions_below (length rows)) k d inside in
    (omega arith, not_first (is_master cuts i (get_or (mirrors_of rows cuts i) k d)) (list_any (reads_from (get_or (mirrors_of rows cuts i) k d)) (part_rows rows cuts i)) is)

-- each source is a master or a mirror
known_by : (m l : Bool) → (m ≡ false → l ≡ true) → (m || l) ≡ true
known_by true l h = refl
known_by false l h = h refl

mirror_by : (m l : Bool) → m ≡ false → l ≡ true → (not m && l) ≡ true
mirror_by true l h k = absurd (cc)
mirror_by false l h k = k

listed : (p : ℕ → Bool) (n u : ℕ) → u < n → p u ≡ true → is_listed (filter p (positions_below n)) u ≡ true
listed p n u low h =
    any-filter_same (λ item. item == u) p true (λ k same. ap p (eqb-true k u same) ∙ h) (positions_below n) ∙ position_has (λ item. item == u) n u low (eq-eqb u u refl)

known_source : (rows : List (List Read)) (cuts : List ℕ) (i k m : ℕ) (d : List Read) (e : Read) → All (λ row. All (λ r. r.source < length rows) row) rows →
    k < length (part_rows rows cuts i) → m < length (get_or (part_rows rows cuts i) k d) →
    (is_master cuts i (get_or (get_or (part_rows rows cuts i) k d) m e).source || is_listed (mirrors_of rows cuts i) (get_or (get_or (part_rows rows cuts i) k d) m e).source) ≡ true
known_source rows cuts i k m d e sources inside below =
    let row : List Read = get_or (part_rows rows cuts i) k d in
    let u : ℕ = (get_or row m e).source in
    let low : u < length rows = part_holds (λ row. All (λ r. r.source < length rows) row) rows (low_of cuts i) (high_of cuts i) sources k d inside m e below in
    let here : reads_from u row ≡ true = list_any_at (λ r. r.source == u) row m e below (eq-eqb u u refl) in
    let some : list_any (reads_from u) (part_rows rows cuts i) ≡ true = list_any_at (reads_from u) (part_rows rows cuts i) k d inside here in
    known_by (is_master cuts i u) (is_listed (mirrors_of rows cuts i) u)
    (λ out. listed (is_mirror rows cuts i) (length rows) u low (mirror_by (is_master cuts i u) (list_any (reads_from u) (part_rows rows cuts i)) out some))

mirror_values : (rows : List (List Read)) (starts cuts : List ℕ) (i : ℕ) → length starts ≡ length rows → All IsValue starts → All IsValue (map (slice_index starts) (mirrors_of rows cuts i))
mirror_values rows starts cuts i size values = All-map IsValue (slice_index starts) (mirrors_of rows cuts i)
    (λ k d inside. values (get_or (mirrors_of rows cuts i) k d) 0 (omega (arith, mirrors_below rows cuts i k d inside)))

boundary_inside : (rows : List (List Read)) (cuts : List ℕ) (n i : ℕ) → IsCuts n cuts → i < part_count cuts → All (λ v. is_within (low_of cuts i) (high_of cuts i) v ≡ true) (boundary_of rows cuts i)
boundary_inside rows cuts n i c below =
    All-filter (is_routed rows cuts) (λ v. is_within (low_of cuts i) (high_of cuts i) v ≡ true) (range_with_len (low_of cuts i) (high_of cuts i - low_of cuts i))
    (range_holds (λ v. is_within (low_of cuts i) (high_of cuts i) v ≡ true) (low_of cuts i) (high_of cuts i - low_of cuts i)
    (λ v from to. within (low_of cuts i) (high_of cuts i) v from (omega (arith, low_below_high n cuts i c below))))

-- the sources are below the number of rows
pub sources_below : (n : ℕ) (rows : List (List Read)) → RowsFit n rows → All (λ row. All (λ r. r.source < length rows) row) rows
sources_below n rows fit k d inside m e below = omega (arith, fit.one_each, fit.sources k d inside m e below)

pub part_fits : (n : ℕ) (rows : List (List Read)) (starts cuts : List ℕ) (i : ℕ) → n ≤ MOST_VERTICES → RowsFit n rows → length starts ≡ n → All IsValue starts → IsWorkerCuts n cuts → i < part_count cuts →
    PartFits (part_of rows starts cuts i)
part_fits n rows starts cuts i most fit size values c below =
    let one_each : length rows ≡ n = fit.one_each in
    let inside : high_of cuts i ≤ n = high_inside n cuts i c.cut below in
    let room : length rows ≤ MOST_VERTICES = omega arith in
    let sources : All (λ row. All (λ r. r.source < length rows) row) rows = sources_below n rows fit in
    record {
      index = omega (arith, c.room);
      range = low_below_high n cuts i c.cut below;
      room = omega arith;
      rows = part_length rows (low_of cuts i) (high_of cuts i) (omega arith);
      starts = part_length starts (low_of cuts i) (high_of cuts i) (omega arith);
      mirrors_rise = IsStrictlyIncreasing-filter (is_mirror rows cuts i) (positions_below (length rows)) (range_rises 0 (length rows));
      mirrors_outside = mirrors_outside rows cuts i room;
      mirror_starts = length-map (mirrors_of rows cuts i) (slice_index starts);
      boundary_rises = IsStrictlyIncreasing-filter (is_routed rows cuts) (range_with_len (low_of cuts i) (high_of cuts i - low_of cuts i)) (range_rises (low_of cuts i) (high_of cuts i - low_of cuts i));
      boundary_inside = boundary_inside rows cuts n i c.cut below;
      values = part_holds IsValue starts (low_of cuts i) (high_of cuts i) values;
      mirror_values = mirror_values rows starts cuts i (size ∙ sym one_each) values;
      sources = λ k d in_part m e in_row. known_source rows cuts i k m d e sources in_part in_row;
    }

-- ---- what a call that makes the part says of it

pub pieced : (r : Result Part Memory) (rows own : List (List Read)) (starts cuts mirrors boundary : List ℕ) (i : ℕ) → own ≡ part_rows rows cuts i → mirrors ≡ mirrors_of rows cuts i → boundary ≡ boundary_of rows cuts i →
    IfOk r (λ part. part ≡ part_with own starts cuts i mirrors boundary) → IfOk r (λ part. part ≡ part_of rows starts cuts i)
pieced (Ok part) rows own starts cuts mirrors boundary i a b c is = is ∙ (rw (a, b, c) refl)
pieced (Err e) rows own starts cuts mirrors boundary i a b c is = tt

-- what holds of the part holds of what the call made
pub made : (r : Result Part Memory) (p : Part) (P : Part → Type 0) → IfOk r (λ part. part ≡ p) → P p → IfOk r P
made (Ok part) p P is h = subst P (sym is) h
made (Err e) p P is h = tt

pub mirrors_within : (rows : List (List Read)) (starts cuts mirrors : List ℕ) (n i : ℕ) → length starts ≡ n → RowsFit n rows → mirrors ≡ mirrors_of rows cuts i → All (λ u. u < length starts) mirrors
mirrors_within rows starts cuts mirrors n i size fit is k d inside = omega (arith, fit.one_each, (let P : List ℕ → Type 0 = λ xs. All (λ u. u < length rows) xs in subst P (sym is) (mirrors_below rows cuts i)) k d inside)

-- ---- mirrors and routes

listed_is : (p : ℕ → Bool) (n u : ℕ) → u < n → is_listed (filter p (positions_below n)) u ≡ p u
listed_is p n u low =
    any-filter_same (λ item. item == u) p (p u) (λ k same. ap p (eqb-true k u same)) (positions_below n)
    ∙ ap (λ b. p u && b) (position_has (λ item. item == u) n u low (eq-eqb u u refl)) ∙ and_true (p u)
  where
    and_true : (b : Bool) → (b && true) ≡ b
    and_true true = refl
    and_true false = refl

-- v stands among the mirrors of part j exactly where j stands on its route
pub mirror_on_route : (rows : List (List Read)) (cuts : List ℕ) (v j : ℕ) → v < length rows → j < part_count cuts → is_listed (mirrors_of rows cuts j) v ≡ is_listed (route_of rows cuts v) j
mirror_on_route rows cuts v j inside low = listed_is (is_mirror rows cuts j) (length rows) v inside ∙ sym (listed_is (λ i. is_mirror rows cuts i v) (part_count cuts) j low)
