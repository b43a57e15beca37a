-- The reads of rows as triples: they never fall, and those of one vertex are its row.
use Rattle.std.proofs.Common.{◌≡◌, ℕ, zero, suc, ◌+◌, ◌-◌, ◌<◌, ◌≤◌, ◌≢◌, Bool, true, false, List, [], ◌∷◌, ◌++◌, length, map, take, get_or, refl, sym, ap, ◌∙◌, subst, inl, inr, arith, zero-add}
use Rattle.std.specs.Prelude.{All, flat_map, filter, ◌==◌}
use Rattle.std.specs.List.Sorted.{IsSortedBy}
use Rattle.std.proofs.lemmas.Bool.{cases_lt, eq-eqb, ne_eqb}
use Rattle.std.proofs.lemmas.Bool.Decides.{nat_tests}
use Rattle.std.proofs.lemmas.List.{append-nil, get_or-map, get_or_append_left, get_or-append_right, length-append, length-map, take_all, take_more}
use Rattle.std.proofs.lemmas.List.Concat.{flat_map-append}
use Rattle.std.proofs.lemmas.List.Elements.{All-nil, All-append, All-map, All-weaker, filter-append}
use Rattle.std.proofs.lemmas.List.FromFn.{fill_by_all}
use Rattle.std.proofs.lemmas.List.Sums.{sum_by_push}
use Rattle.px_base.specs.declared.graph.Read.{Read}
use Rattle.px_base.specs.declared.frame.Triple.{Triple}
use Rattle.px_base.specs.FrameFits.{is_lower_triple}
use Rattle.px_base.specs.Graphs.{is_lower_read, read_count, row_at}
use Rattle.px_base.specs.Values.{by_position, positions_below}
use Rattle.px_base.proofs.Members.{range_suc}
use Rattle.part_loads.specs.Loads.{read_of, reads_by}
use Rattle.part_loads.proofs.Runs.{filter_whole, filter_nothing}
use Rattle.load_laws.specs.PartFrames.{triple_of, triples_of}

-- ---- lists made position by position

-- one position more
more : {X : Type 0} (g : ℕ → List X) (n : ℕ) → flat_map g (positions_below (suc n)) ≡ flat_map g (positions_below n) ++ g n
more g n =
    ap (flat_map g) (range_suc 0 n ∙ ap (λ j. positions_below n ++ j ∷ []) (zero-add n)) ∙ flat_map-append g (positions_below n) (n ∷ []) ∙ ap (λ l. flat_map g (positions_below n) ++ l) (append-nil (g n))

pub each_of : {X : Type 0} (P : X → Type 0) (g : ℕ → List X) (n : ℕ) → ((k : ℕ) → k < n → All P (g k)) → All P (flat_map g (positions_below n))
each_of P g zero holds = All-nil P
each_of P g (suc n) holds =
    subst (All P) (sym (more g n)) (All-append P (flat_map g (positions_below n)) (g n) (each_of P g n (λ k less. holds k (omega arith))) (holds n (omega arith)))

-- a filter that keeps the entries of one position alone
none_kept : {X : Type 0} (p : X → Bool) (g : ℕ → List X) (n : ℕ) → ((j : ℕ) → j < n → filter p (g j) ≡ []) → filter p (flat_map g (positions_below n)) ≡ []
none_kept p g zero others = refl
none_kept p g (suc n) others =
    ap (filter p) (more g n) ∙ filter-append p (flat_map g (positions_below n)) (g n)
    ∙ ap (λ l. l ++ filter p (g n)) (none_kept p g n (λ j less. others j (omega arith))) ∙ others n (omega arith)

kept : {X : Type 0} (p : X → Bool) (g : ℕ → List X) (k n : ℕ) → k < n → ((j : ℕ) → j ≢ k → filter p (g j) ≡ []) → filter p (g k) ≡ g k
    → filter p (flat_map g (positions_below n)) ≡ g k
kept p g k zero inside others own = absurd (omega arith)
kept {X} p g k (suc n) inside others own =
    ap (filter p) (more g n) ∙ filter-append p (flat_map g (positions_below n)) (g n) ∙ elim (cases_lt k n) [
      | inl less ↦ ap (λ l. l ++ filter p (g n)) (kept p g k n less others own) ∙ ap (λ l. g k ++ l) (others n (λ e. omega (arith, e))) ∙ append-nil (g k)
      | inr same ↦
          (let is : n ≡ k = omega arith in
          ap (λ l. l ++ filter p (g n)) (none_kept p g n (λ j less. others j (λ e. omega (arith, e)))) ∙ ap (λ j. filter p (g j)) is ∙ own)
    ]

-- ---- the rows

back : (v : ℕ) (row : List Read) → map read_of (map (triple_of v) row) ≡ row
back v [] = refl
back v (r ∷ row) = ap (λ l. r ∷ l) (back v row)

of_target : (v : ℕ) (row : List Read) → All (λ t. t.target ≡ v) (map (triple_of v) row)
of_target v row = All-map (λ (t : Triple). t.target ≡ v) (triple_of v) row (λ k d inside. refl)

pub row_is : (low : ℕ) (rows : List (List Read)) (k : ℕ) → k < length rows → reads_by (triples_of low rows) (low + k) ≡ row_at rows k
row_is low rows k inside =
    ap (map read_of) (kept (λ (t : Triple). t.target == low + k) (λ j. map (triple_of (low + j)) (row_at rows j)) k (length rows) inside
    (λ j apart. filter_nothing (λ (t : Triple). t.target == low + k) (map (triple_of (low + j)) (row_at rows j))
    (All-weaker (λ (t : Triple). t.target ≡ low + j) (λ (t : Triple). (t.target == low + k) ≡ false) (λ t e. ne_eqb t.target (low + k) (λ s. apart (omega (arith, e, s))))
    (map (triple_of (low + j)) (row_at rows j)) (of_target (low + j) (row_at rows j))))
    (filter_whole (λ (t : Triple). t.target == low + k) (map (triple_of (low + k)) (row_at rows k))
    (All-weaker (λ (t : Triple). t.target ≡ low + k) (λ (t : Triple). (t.target == low + k) ≡ true) (λ t e. eq-eqb t.target (low + k) e)
    (map (triple_of (low + k)) (row_at rows k)) (of_target (low + k) (row_at rows k)))))
    ∙ back (low + k) (row_at rows k)

pub rows_are : (low n : ℕ) (rows : List (List Read)) → length rows ≡ n → by_position n (λ k. reads_by (triples_of low rows) (low + k)) ≡ rows
rows_are low n rows long = sym (fill_by_all (λ k. reads_by (triples_of low rows) (low + k)) rows n [] long (λ k less. sym (row_is low rows k (omega arith))))

-- ---- how many

counted_to : (low : ℕ) (rows : List (List Read)) (n : ℕ) → n ≤ length rows → length (flat_map (λ k. map (triple_of (low + k)) (row_at rows k)) (positions_below n)) ≡ read_count (take n rows)
counted_to low rows zero inside = refl
counted_to low rows (suc n) inside =
    let one : suc n ≡ n + 1 = omega arith in
    let front : List Triple = flat_map (λ k. map (triple_of (low + k)) (row_at rows k)) (positions_below n) in
    ap length (more (λ k. map (triple_of (low + k)) (row_at rows k)) n)
    ∙ length-append front (map (triple_of (low + n)) (row_at rows n))
    ∙ ap (λ m. length front + m) (length-map (row_at rows n) (triple_of (low + n)))
    ∙ ap (λ m. m + length (row_at rows n)) (counted_to low rows n (omega arith))
    ∙ sym (sum_by_push (λ (row : List Read). length row) (take n rows) (row_at rows n))
    ∙ ap read_count (sym (take_more rows n [] (omega arith)))
    ∙ ap (λ m. read_count (take m rows)) (sym one)

pub counted : (low : ℕ) (rows : List (List Read)) → length (triples_of low rows) ≡ read_count rows
counted low rows = counted_to low rows (length rows) (omega arith) ∙ ap read_count (take_all (length rows) rows (omega arith))

-- ---- in order

-- a list in order after another
after : {X : Type 0} (lt : X → X → Bool) (xs ys : List X) → IsSortedBy lt xs → IsSortedBy lt ys
    → ((d : X) → 0 < length xs → 0 < length ys → lt (get_or ys 0 d) (get_or xs (length xs - 1) d) ≡ false) → IsSortedBy lt (xs ++ ys)
after {X} lt xs ys first second between k d from inside =
    let long : length (xs ++ ys) ≡ length xs + length ys = length-append xs ys in
    elim (cases_lt (k + 1) (length xs)) [
      | inl left ↦ rw (get_or_append_left xs ys d (k + 1) left, get_or_append_left xs ys d k (omega arith)) (first k d (omega arith) left)
      | inr past ↦ elim (cases_lt k (length xs)) [
        | inl last ↦
            (let place : k ≡ length xs - 1 = omega arith in
            let none : k + 1 - length xs ≡ 0 = omega arith in
            rw (get_or-append_right xs ys (length xs) (k + 1) d refl past, get_or_append_left xs ys d k last, none, place) (between d (omega arith) (omega arith)))
        | inr right ↦
            (let one : k + 1 - length xs ≡ (k - length xs) + 1 = omega arith in
            rw (get_or-append_right xs ys (length xs) (k + 1) d refl past, get_or-append_right xs ys (length xs) k d refl right, one) (second (k - length xs) d (omega arith) (omega arith)))
      ]
    ]

-- one vertex's triples
own_order : (v : ℕ) (a b : Read) → is_lower_read a b ≡ false → is_lower_triple (triple_of v a) (triple_of v b) ≡ false
own_order v a b not_less = grind (arith, nat_tests)

in_row : (v : ℕ) (row : List Read) → IsSortedBy is_lower_read row → IsSortedBy is_lower_triple (map (triple_of v) row)
in_row v row order k d from inside =
    let long = length-map row (triple_of v) in
    rw (get_or-map (triple_of v) row (k + 1) (read_of d) d (omega arith), get_or-map (triple_of v) row k (read_of d) d (omega arith))
    (own_order v (get_or row (k + 1) (read_of d)) (get_or row k (read_of d)) (order k (read_of d) (omega arith) (omega arith)))

-- a triple of a later vertex
later_order : (a b : Triple) → a.target < b.target → is_lower_triple b a ≡ false
later_order a b less = grind (arith, nat_tests)

ordered_to : (low : ℕ) (rows : List (List Read)) (n : ℕ) → n ≤ length rows → All (λ row. IsSortedBy is_lower_read row) rows
    → IsSortedBy is_lower_triple (flat_map (λ k. map (triple_of (low + k)) (row_at rows k)) (positions_below n))
ordered_to low rows zero inside order = λ k d from below. absurd (omega arith)
ordered_to low rows (suc n) inside order =
    let g : ℕ → List Triple = λ (k : ℕ). map (triple_of (low + k)) (row_at rows k) in
    let front : List Triple = flat_map g (positions_below n) in
    let early : All (λ t. t.target < low + n) front =
    each_of (λ (t : Triple). t.target < low + n) g n (λ k less. All-weaker (λ (t : Triple). t.target ≡ low + k) (λ (t : Triple). t.target < low + n) (λ t e. omega (arith, e))
    (g k) (of_target (low + k) (row_at rows k))) in
    let here : All (λ t. t.target ≡ low + n) (g n) = of_target (low + n) (row_at rows n) in
    subst (IsSortedBy is_lower_triple) (sym (more g n))
    (after is_lower_triple front (g n) (ordered_to low rows n (omega arith) order) (in_row (low + n) (row_at rows n) (order n [] (omega arith)))
    (λ d some others. later_order (get_or front (length front - 1) d) (get_or (g n) 0 d) (omega (arith, early (length front - 1) d (omega arith), here 0 d others))))

pub ordered : (low : ℕ) (rows : List (List Read)) → All (λ row. IsSortedBy is_lower_read row) rows → IsSortedBy is_lower_triple (triples_of low rows)
ordered low rows order = ordered_to low rows (length rows) (omega arith) order

-- ---- each triple

pub each_triple : (P : Triple → Type 0) (low : ℕ) (rows : List (List Read)) → ((k : ℕ) → k < length rows → All (λ r. P (triple_of (low + k) r)) (row_at rows k)) → All P (triples_of low rows)
each_triple P low rows holds =
    each_of P (λ k. map (triple_of (low + k)) (row_at rows k)) (length rows) (λ k less. All-map P (triple_of (low + k)) (row_at rows k) (holds k less))
