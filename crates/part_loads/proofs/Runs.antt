-- Rows out of triples that never fall: those of one target stand together.
use Rattle.std.proofs.Common.{◌≡◌, ℕ, ◌+◌, ◌-◌, ◌<◌, ◌≤◌, ◌≢◌, Bool, true, false, List, [], ◌∷◌, ◌++◌, length, map, take, drop, get_or, refl, sym, ap, ◌∙◌, subst, inl, inr, arith}
use Rattle.std.specs.Prelude.{◌==◌, nat_lt, filter, All}
use Rattle.std.specs.List.{HoldsAt}
use Rattle.std.specs.List.Sorted.{IsSortedBy, IsNonDecreasingBy}
use Rattle.std.proofs.lemmas.Bool.{cases_lt, lt-ltb, eq-eqb, ne_eqb, false≢true}
use Rattle.std.proofs.lemmas.List.{append-nil, take-append-drop, length-take-le, length-drop, length-map, get_or-drop, drop-drop}
use Rattle.std.proofs.lemmas.List.Elements.{All-head, All-tail, All-weaker, filter-append}
use Rattle.std.proofs.lemmas.List.Sorted.{IsNonDecreasingBy-from_all_adjacent, IsNonDecreasingBy-drop}
use Rattle.std.proofs.lemmas.List.Sums.{sum_by_push}
use Rattle.px_base.specs.declared.graph.Read.{Read}
use Rattle.px_base.specs.declared.frame.Triple.{Triple}
use Rattle.px_base.specs.FrameFits.{is_lower_triple}
use Rattle.px_base.specs.Graphs.{read_count}
use Rattle.px_base.specs.Values.{by_position}
use Rattle.px_base.proofs.Positions.{by_position_more}
use Rattle.part_loads.specs.Loads.{read_of, reads_by}
use Rattle.part_loads.specs.Keeping.{AreRows, rows_by}

-- ---- what a filter keeps

pub filter_whole : {X : Type 0} (p : X → Bool) (xs : List X) → All (λ x. p x ≡ true) xs → filter p xs ≡ xs
filter_whole p [] all = refl
filter_whole {X} p (x ∷ xs) all =
    rw (All-head (λ (y : X). p y ≡ true) x xs all) (ap (λ (l : List X). x ∷ l) (filter_whole p xs (All-tail (λ (y : X). p y ≡ true) x xs all)))

pub filter_nothing : {X : Type 0} (p : X → Bool) (xs : List X) → All (λ x. p x ≡ false) xs → filter p xs ≡ []
filter_nothing p [] none = refl
filter_nothing {X} p (x ∷ xs) none =
    rw (All-head (λ (y : X). p y ≡ false) x xs none) (filter_nothing p xs (All-tail (λ (y : X). p y ≡ false) x xs none))

-- ---- targets

abbrev targeted : ℕ → List Triple → List Triple
targeted w triples = filter (λ t. t.target == w) triples

not_lower : (a b : Triple) → is_lower_triple b a ≡ false → a.target ≤ b.target
not_lower a b not_less =
    elim (cases_lt b.target a.target) [
      | inl less ↦ let below : nat_lt b.target a.target ≡ true = lt-ltb b.target a.target less in absurd (false≢true (sym not_less ∙ rw below refl))
      | inr up ↦ up
    ]

pub targets_rise : (triples : List Triple) → IsSortedBy is_lower_triple triples → IsNonDecreasingBy (λ t. t.target) triples
targets_rise triples sorted =
    IsNonDecreasingBy-from_all_adjacent (λ (t : Triple). t.target) triples
    (λ k d below. not_lower (get_or triples k d) (get_or triples (k + 1) d) (sorted k d (omega arith) below))

-- ---- the triples of one target in front

abbrev EndsAt : ℕ → List Triple → ℕ → Type 0
EndsAt v rest run = run < length rest → HoldsAt (λ t. t.target ≢ v) rest run

-- what follows them is of later targets
later : (v : ℕ) (rest : List Triple) (run : ℕ) → IsNonDecreasingBy (λ t. t.target) rest → All (λ t. v ≤ t.target) rest → EndsAt v rest run
    → All (λ t. v + 1 ≤ t.target) (drop run rest)
later v rest run rise from end = λ k d below.
    let long : length (drop run rest) ≡ length rest - run = length-drop run rest in
    let inside : run + k < length rest = omega arith in
    let here : v ≤ (get_or rest run d).target = from run d (omega arith) in
    let apart : (get_or rest run d).target ≢ v = end (omega arith) d in
    let up : (get_or rest run d).target ≤ (get_or rest (run + k) d).target = rise run (run + k) d (omega arith) inside in
    rw get_or-drop (omega (arith, apart))

apart_below : (v w : ℕ) (rest : List Triple) → v < w → All (λ t. t.target ≡ v) rest → targeted w rest ≡ []
apart_below v w rest less all =
    filter_nothing (λ (t : Triple). t.target == w) rest
    (All-weaker (λ (t : Triple). t.target ≡ v) (λ (t : Triple). (t.target == w) ≡ false) (λ t e. ne_eqb t.target w (omega arith)) rest all)

apart_above : (w : ℕ) (rest : List Triple) → All (λ t. w + 1 ≤ t.target) rest → targeted w rest ≡ []
apart_above w rest all =
    filter_nothing (λ (t : Triple). t.target == w) rest
    (All-weaker (λ (t : Triple). w + 1 ≤ t.target) (λ (t : Triple). (t.target == w) ≡ false) (λ t e. ne_eqb t.target w (omega arith)) rest all)

split_targeted : (w : ℕ) (rest : List Triple) (run : ℕ) → targeted w rest ≡ targeted w (take run rest) ++ targeted w (drop run rest)
split_targeted w rest run =
    ap (targeted w) (sym (take-append-drop run rest)) ∙ filter-append (λ (t : Triple). t.target == w) (take run rest) (drop run rest)

-- they are all that have the target
run_is : (v : ℕ) (rest : List Triple) (run : ℕ) → IsNonDecreasingBy (λ t. t.target) rest → All (λ t. v ≤ t.target) rest → All (λ t. t.target ≡ v) (take run rest) → EndsAt v rest run
    → targeted v rest ≡ take run rest
run_is v rest run rise from all end =
    split_targeted v rest run
    ∙ ap (λ (l : List Triple). l ++ targeted v (drop run rest))
    (filter_whole (λ (t : Triple). t.target == v) (take run rest)
    (All-weaker (λ (t : Triple). t.target ≡ v) (λ (t : Triple). (t.target == v) ≡ true) (λ t e. eq-eqb t.target v e) (take run rest) all))
    ∙ ap (λ (l : List Triple). take run rest ++ l) (apart_above v (drop run rest) (later v rest run rise from end))
    ∙ append-nil (take run rest)

-- later targets lose nothing
rest_is : (v w : ℕ) (rest : List Triple) (run : ℕ) → v < w → All (λ t. t.target ≡ v) (take run rest) → targeted w (drop run rest) ≡ targeted w rest
rest_is v w rest run less all =
    sym (split_targeted w rest run ∙ ap (λ (l : List Triple). l ++ targeted w (drop run rest)) (apart_below v w (take run rest) less all))

-- ---- one row after another

-- the rows of the vertices from low up to v, where the triples before this place are used
pub record RowsTo (low v : ℕ) (triples : List Triple) (at : ℕ) (rows : List (List Read)) : Type 0 where
  pub are : rows ≡ rows_by low v triples
  pub count : read_count rows ≡ at
  pub within : at ≤ length triples
  pub rest : (w : ℕ) → v ≤ w → filter (λ t. t.target == w) (drop at triples) ≡ filter (λ t. t.target == w) triples
  pub from : All (λ t. v ≤ t.target) (drop at triples)

pub rows_more : (low high v : ℕ) (triples rest : List Triple) (at run : ℕ) (rows : List (List Read)) → low ≤ v → AreRows low high triples → RowsTo low v triples at rows
    → rest ≡ drop at triples → run ≤ length rest → All (λ t. t.target ≡ v) (take run rest) → EndsAt v rest run
    → RowsTo low (v + 1) triples (at + run) (rows ++ map read_of (take run rest) ∷ [])
rows_more low high v triples rest at run rows above h to is within all end =
    let rise : IsNonDecreasingBy (λ t. t.target) rest =
    subst (IsNonDecreasingBy (λ (t : Triple). t.target)) (sym is) (IsNonDecreasingBy-drop (λ (t : Triple). t.target) at triples (targets_rise triples h.order)) in
    let from : All (λ t. v ≤ t.target) rest = subst (All (λ (t : Triple). v ≤ t.target)) (sym is) to.from in
    let row : List Read = map read_of (take run rest) in
    let same : row ≡ reads_by triples v = ap (map read_of) (sym (run_is v rest run rise from all end) ∙ ap (targeted v) is ∙ to.rest v (omega arith)) in
    let long : length rest ≡ length triples - at = ap length is ∙ length-drop at triples in
    let one : v + 1 - low ≡ (v - low) + 1 = omega arith in
    let here : low + (v - low) ≡ v = omega arith in
    let dropped : drop (at + run) triples ≡ drop run rest = sym (ap (drop run) is ∙ drop-drop run at triples) in
    let count : length row ≡ run = length-map (take run rest) read_of ∙ length-take-le run rest within in
    let row_by : ℕ → List Read = λ (k : ℕ). reads_by triples (low + k) in
    record {
      are = ap (λ (l : List (List Read)). l ++ row ∷ []) to.are
          ∙ ap (λ (r : List Read). rows_by low v triples ++ r ∷ []) (same ∙ ap (reads_by triples) (sym here))
          ∙ sym (by_position_more (v - low) row_by)
          ∙ ap (λ (n : ℕ). by_position n row_by) (sym one);
      count = sum_by_push (λ (r : List Read). length r) rows row ∙ ap (λ (n : ℕ). n + length row) to.count ∙ ap (λ (n : ℕ). at + n) count;
      within = let inside = to.within in omega arith;
      rest = λ w after. ap (targeted w) dropped ∙ rest_is v w rest run (omega arith) all ∙ ap (targeted w) is ∙ to.rest w (omega arith);
      from = subst (All (λ (t : Triple). v + 1 ≤ t.target)) (sym dropped) (later v rest run rise from end);
    }
