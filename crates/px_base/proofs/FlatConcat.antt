-- All reads of rows in flat lists, row after row.
use Rattle.std.proofs.Common.{◌≡◌, ℕ, zero, suc, ◌+◌, ◌-◌, ◌≤◌, eqb, List, [], ◌∷◌, ◌++◌, length, map, get_or, take, drop, refl, ap, sym, ◌∙◌, arith}
use Rattle.std.specs.Prelude.{All, Bool, true, false, ◌||◌, slice_range}
use Rattle.std.specs.List.{flat_map, list_any}
use Rattle.std.proofs.lemmas.List.{take_all, flat_map_more, map-append}
use Rattle.std.proofs.lemmas.List.Elements.{All-append, All-drop, All-head, All-map, All-nil, All-same, All-tail, All-take}
use Rattle.px_base.specs.declared.graph.Read.{Read}
use Rattle.px_base.specs.Values.{by_position, is_listed}
use Rattle.px_base.specs.Parts.{reads_from}
use Rattle.px_base.specs.FlatRows.{AreFlat, reads_in, row_in, rows_in}
use Rattle.px_base.proofs.FlatReads.{length-reads_in, sources-reads_in}
use Rattle.px_base.proofs.FlatRanges.{row_order}
use Rattle.px_base.proofs.FlatParts.{shifted, are_flat, rows_are}
use Rattle.px_base.proofs.Positions.{by_position_more}

abbrev pub concat : {X : Type 0} → List (List X) → List X
concat rows = flat_map (λ row. row) rows

pub concat_push : {X : Type 0} (rows : List (List X)) (row : List X) → concat (rows ++ row ∷ []) ≡ concat rows ++ row
concat_push rows row = sym (flat_map_more (λ r. r) [] rows row)

nothing : {X : Type 0} (a b : ℕ) → take {A = X} a [] ≡ take b []
nothing zero zero = refl
nothing zero (suc b) = refl
nothing (suc a) zero = refl
nothing (suc a) (suc b) = refl

-- a front, and what stands behind it up to a later place
front_more : {X : Type 0} (xs : List X) (i j : ℕ) → i ≤ j → take i xs ++ slice_range xs i j ≡ take j xs
front_more {X} xs zero j order = let n : j - 0 ≡ j = omega arith in ap (λ k. take k xs) n
front_more {X} [] (suc i) j order = nothing {X = X} (j - suc i) j
front_more {X} (x ∷ xs) (suc i) zero order = absurd (omega arith)
front_more {X} (x ∷ xs) (suc i) (suc j) order =
    let n : suc j - suc i ≡ j - i = omega arith in
    ap (λ k. x ∷ (take i xs ++ take k (drop i xs))) n ∙ ap (λ rest. x ∷ rest) (front_more xs i j (omega arith))

concat_front : (starts sources weights : List ℕ) → AreFlat starts sources weights → (n : ℕ) → n + 1 ≤ length starts → concat (by_position n (row_in starts sources weights)) ≡ take (get_or starts n 0) (reads_in sources weights)
concat_front starts sources weights flat zero inside = ap (λ k. take k (reads_in sources weights)) (sym flat.first)
concat_front starts sources weights flat (suc n) inside =
    let is : suc n ≡ n + 1 = omega arith in
    ap (λ k. concat (by_position k (row_in starts sources weights))) is
    ∙ ap concat (by_position_more n (row_in starts sources weights))
    ∙ concat_push (by_position n (row_in starts sources weights)) (row_in starts sources weights n)
    ∙ ap (λ front. front ++ row_in starts sources weights n) (concat_front starts sources weights flat n (omega arith))
    ∙ front_more (reads_in sources weights) (get_or starts n 0) (get_or starts (n + 1) 0) (row_order starts sources weights flat n (omega arith))
    ∙ ap (λ k. take (get_or starts k 0) (reads_in sources weights)) (sym is)

pub concat-rows_in : (starts sources weights : List ℕ) → AreFlat starts sources weights → concat (rows_in starts sources weights) ≡ reads_in sources weights
concat-rows_in [] [] weights flat = refl
concat-rows_in [] (s ∷ sources) weights flat = absurd (let none : 0 ≡ length (s ∷ sources) = flat.last in omega arith)
concat-rows_in (s ∷ starts) sources weights flat =
    concat_front (s ∷ starts) sources weights flat (length (s ∷ starts) - 1) (omega arith)
    ∙ ap (λ k. take k (reads_in sources weights)) flat.last
    ∙ take_all (length sources) (reads_in sources weights) (omega (arith, length-reads_in sources weights flat.both))

-- the flat list of sources is that of the rows' reads
pub sources-rows_in : (starts sources weights : List ℕ) → AreFlat starts sources weights → map (λ (r : Read). r.source) (concat (rows_in starts sources weights)) ≡ sources
sources-rows_in starts sources weights flat = ap (map (λ (r : Read). r.source)) (concat-rows_in starts sources weights flat) ∙ sources-reads_in sources weights flat.both

-- the sources of some rows stand one after another
pub sources_range : (starts sources weights : List ℕ) (low high : ℕ) → AreFlat starts sources weights → low ≤ high → high + 1 ≤ length starts →
    slice_range sources (get_or starts low 0) (get_or starts high 0) ≡ map (λ (r : Read). r.source) (concat (slice_range (rows_in starts sources weights) low high))
sources_range starts sources weights low high flat order inside =
    sym (sources-rows_in (shifted starts low high) (slice_range sources (get_or starts low 0) (get_or starts high 0)) (slice_range weights (get_or starts low 0) (get_or starts high 0))
    (are_flat starts sources weights low high flat order inside))
    ∙ ap (λ rows. map (λ (r : Read). r.source) (concat rows)) (rows_are starts sources weights low high flat order inside)

-- ---- who is read by some row is one of the sources

listed-append : (xs ys : List ℕ) (u : ℕ) → is_listed (xs ++ ys) u ≡ (is_listed xs u || is_listed ys u)
listed-append [] ys u = refl
listed-append (x ∷ xs) ys u = ap (λ b. eqb x u || b) (listed-append xs ys u) ∙ sym (or_assoc (eqb x u) (is_listed xs u) (is_listed ys u))
  where
    or_assoc : (a b c : Bool) → ((a || b) || c) ≡ (a || (b || c))
    or_assoc true b c = refl
    or_assoc false b c = refl

row_read : (u : ℕ) (row : List Read) → reads_from u row ≡ is_listed (map (λ (r : Read). r.source) row) u
row_read u [] = refl
row_read u (r ∷ row) = ap (λ b. eqb r.source u || b) (row_read u row)

pub some_row_reads : (u : ℕ) (rows : List (List Read)) → list_any (reads_from u) rows ≡ is_listed (map (λ (r : Read). r.source) (concat rows)) u
some_row_reads u [] = refl
some_row_reads u (row ∷ rows) =
    (λ i. row_read u row i || some_row_reads u rows i)
    ∙ sym (ap (λ sources. is_listed sources u) (map-append (λ (r : Read). r.source) row (concat rows)) ∙ listed-append (map (λ (r : Read). r.source) row) (map (λ (r : Read). r.source) (concat rows)) u)

-- what holds of the sources of all rows holds of the sources one after another
pub all_concat : (P : ℕ → Type 0) (rows : List (List Read)) → All (λ row. All (λ (r : Read). P r.source) row) rows → All P (map (λ (r : Read). r.source) (concat rows))
all_concat P [] all = All-nil P
all_concat P (row ∷ rows) all =
    All-same P (map (λ (r : Read). r.source) (row ++ concat rows)) (map (λ (r : Read). r.source) row ++ map (λ (r : Read). r.source) (concat rows)) (map-append (λ (r : Read). r.source) row (concat rows))
    (All-append P (map (λ (r : Read). r.source) row) (map (λ (r : Read). r.source) (concat rows))
    (All-map P (λ (r : Read). r.source) row (All-head (λ x. All (λ (r : Read). P r.source) x) row rows all))
    (all_concat P rows (All-tail (λ x. All (λ (r : Read). P r.source) x) row rows all)))

-- what holds of the sources of all rows holds of those of some rows, one after another
pub all_between : (P : ℕ → Type 0) (rows : List (List Read)) (low high : ℕ) → All (λ row. All (λ (r : Read). P r.source) row) rows → All P (map (λ (r : Read). r.source) (concat (slice_range rows low high)))
all_between P rows low high all =
    let Holds : List Read → Type 0 = λ row. All (λ (r : Read). P r.source) row in
    all_concat P (slice_range rows low high) (All-take Holds (high - low) (drop low rows) (All-drop Holds low rows all))
