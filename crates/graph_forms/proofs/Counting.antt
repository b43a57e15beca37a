-- An edge makes at most two reads.
use Rattle.std.proofs.Common.{◌≡◌, ℕ, zero, suc, ◌+◌, ◌*◌, ◌<◌, ◌≤◌, Bool, true, false, cond, List, [], ◌∷◌, ◌++◌, length, map, take, arith, inl, inr, refl, ap, sym, ◌∙◌, zero-add}
use Rattle.std.specs.Prelude.{◌==◌, ◌&&◌, ◌||◌, not, filter, sum_by}
use Rattle.std.specs.List.{list_any}
use Rattle.std.proofs.lemmas.Bool.Decides.{eqb_tells}
use Rattle.std.proofs.lemmas.List.{take_all, length-append, length-map}
use Rattle.std.proofs.lemmas.List.Elements.{filter-append}
use Rattle.std.proofs.lemmas.List.Sorted.{length_permutation}
use Rattle.std.proofs.lemmas.List.Sums.{sum_by_more}
use Rattle.px_base.specs.declared.graph.Edge.{Edge}
use Rattle.px_base.specs.declared.graph.Read.{Read}
use Rattle.px_base.specs.declared.graph.ReadGraph.{ReadGraph}
use Rattle.px_base.specs.declared.program.Form.{Form}
use Rattle.px_base.specs.declared.program.Form.TheVariants.{Given, Back, Simple}
use Rattle.px_base.specs.declared.program.Reads.{Reads}
use Rattle.px_base.specs.declared.program.Reads.TheVariants as reads_kind
use Rattle.px_base.specs.Values.{by_position, one_if, positions_below}
use Rattle.px_base.specs.Graphs.{IsGraphOf, is_neighbour, joins, kept_reads, read_count, reads_of, read_of_source, read_of_target, row_at, stands_before, unit_read}
use Rattle.px_base.proofs.Members.{range_suc}
use Rattle.px_base.proofs.Positions.{at_position, length_by_position}

-- ---- the sum of f at all numbers below n

abbrev total : (ℕ → ℕ) → ℕ → ℕ
total f zero = 0
total f (suc n) = total f n + f n

total_up : (f g : ℕ → ℕ) (n : ℕ) → ((v : ℕ) → v < n → f v ≤ g v) → total f n ≤ total g n
total_up f g zero h = omega arith
total_up f g (suc n) h = omega (arith, total_up f g n (λ v below. h v (omega arith)), h n (omega arith))

total_both : (f g : ℕ → ℕ) (n : ℕ) → total (λ v. f v + g v) n ≡ total f n + total g n
total_both f g zero = refl
total_both f g (suc n) = omega (arith, total_both f g n)

total_none : (f : ℕ → ℕ) (n : ℕ) → ((v : ℕ) → f v ≡ 0) → total f n ≡ 0
total_none f zero h = refl
total_none f (suc n) h = omega (arith, total_none f n h, h n)

not_yet : (c n : ℕ) → n ≤ c → total (λ u. one_if (c == u)) n ≡ 0
not_yet c zero low = refl
not_yet c (suc n) low = elim (eqb_tells c n) [
  | inl (told, same) ↦ absurd (omega arith)
  | inr (told, apart) ↦ omega (arith, not_yet c n (omega arith), ap one_if told)
]

-- a number is met once at most
once : (c n : ℕ) → total (λ u. one_if (c == u)) n ≤ 1
once c zero = omega arith
once c (suc n) = elim (eqb_tells c n) [
  | inl (told, same) ↦ omega (arith, not_yet c n (omega arith), ap one_if told)
  | inr (told, apart) ↦ omega (arith, once c n, ap one_if told)
]

once_left : (b : Bool) (c n : ℕ) → total (λ u. one_if (c == u && b)) n ≤ one_if b
once_left true c n = omega (arith, total_up (λ u. one_if (c == u && true)) (λ u. one_if (c == u)) n (λ u below. and_true (c == u)), once c n)
  where
    and_true : (b : Bool) → one_if (b && true) ≤ one_if b
    and_true true = omega arith
    and_true false = omega arith
once_left false c n = omega (arith, total_none (λ u. one_if (c == u && false)) n (λ u. and_false (c == u)))
  where
    and_false : (b : Bool) → one_if (b && false) ≡ 0
    and_false true = refl
    and_false false = refl

once_right : (b : Bool) (c n : ℕ) → total (λ u. one_if (b && c == u)) n ≤ one_if b
once_right true c n = once c n
once_right false c n = omega (arith, total_none (λ u. 0) n (λ u. refl))

-- ---- lists by totals

one_kept : (p : ℕ → Bool) (x : ℕ) → length (filter p (x ∷ [])) ≡ one_if (p x)
one_kept p x = elim (p x) as (λ b. length (cond b (x ∷ []) []) ≡ one_if b) [ true ↦ refl | false ↦ refl ]

filter_end : (p : ℕ → Bool) (xs : List ℕ) (x : ℕ) → length (filter p (xs ++ x ∷ [])) ≡ length (filter p xs) + one_if (p x)
filter_end p xs x = ap length (filter-append p xs (x ∷ [])) ∙ length-append (filter p xs) (filter p (x ∷ [])) ∙ ap (λ k. length (filter p xs) + k) (one_kept p x)

count_is : (p : ℕ → Bool) (n : ℕ) → length (filter p (positions_below n)) ≡ total (λ u. one_if (p u)) n
count_is p zero = refl
count_is p (suc n) = ap (λ l. length (filter p l)) (range_suc 0 n ∙ ap (λ j. positions_below n ++ j ∷ []) (zero-add n)) ∙ filter_end p (positions_below n) n ∙ ap (λ k. k + one_if (p n)) (count_is p n)

rows_up_to : (rows : List (List Read)) (k : ℕ) → k ≤ length rows → sum_by (λ row. length row) (take k rows) ≡ total (λ v. length (row_at rows v)) k
rows_up_to rows zero within = refl
rows_up_to rows (suc k) within =
    let next : suc k ≡ k + 1 = omega arith in
    ap (λ j. sum_by (λ row. length row) (take j rows)) next ∙ omega (arith, sum_by_more (λ row. length row) rows k [] (omega arith), rows_up_to rows k (omega arith))

rows_total : (rows : List (List Read)) → read_count rows ≡ total (λ v. length (row_at rows v)) (length rows)
rows_total rows = ap (λ l. sum_by (λ row. length row) l) (sym (take_all (length rows) rows (omega arith))) ∙ rows_up_to rows (length rows) (omega arith)

fewer_kept : {X : Type 0} (p : X → Bool) (xs : List X) → length (filter p xs) ≤ length xs
fewer_kept p [] = omega arith
fewer_kept p (x ∷ xs) = elim (p x) as (λ b. length (cond b (x ∷ filter p xs) (filter p xs)) ≤ length (x ∷ xs)) [
  | true ↦ omega (arith, fewer_kept p xs)
  | false ↦ omega (arith, fewer_kept p xs)
]

-- ---- one edge more

abbrev ends_at : Edge → ℕ → ℕ
ends_at e v = one_if (e.target == v) + one_if (e.source == v)

reads_more : (test : Edge → Bool) (read : Edge → Read) (e : Edge) (es : List Edge) → length (map read (filter test (e ∷ es))) ≡ length (map read (filter test es)) + one_if (test e)
reads_more test read e es = elim (test e) as (λ b. length (map read (cond b (e ∷ filter test es) (filter test es))) ≡ length (map read (filter test es)) + one_if b) [ true ↦ omega arith | false ↦ omega arith ]

either_end : (a x y r : Bool) → one_if (a && ((x || y) || r)) ≤ one_if (a && r) + (one_if x + one_if y)
either_end false x y r = omega arith
either_end true true y r = omega arith
either_end true false true r = omega arith
either_end true false false r = omega arith

degree_more : (form : Form) (n : ℕ) (e : Edge) (es : List Edge) (v : ℕ) → length (reads_of form n (e ∷ es) v) ≤ length (reads_of form n es v) + ends_at e v
degree_more Given n e es v = omega (arith, reads_more (λ x. x.target == v) read_of_source e es)
degree_more Back n e es v = omega (arith, reads_more (λ x. x.source == v) read_of_target e es)
degree_more Simple n e es v =
    let all : ℕ → ℕ = λ u. one_if (is_neighbour (e ∷ es) v u) in
    let rest : ℕ → ℕ = λ u. one_if (is_neighbour es v u) in
    let there : ℕ → ℕ = λ u. one_if (e.source == u && e.target == v) in
    let back : ℕ → ℕ = λ u. one_if (e.source == v && e.target == u) in
    omega (
      arith,
      length-map (filter (is_neighbour (e ∷ es) v) (positions_below n)) unit_read,
      length-map (filter (is_neighbour es v) (positions_below n)) unit_read,
      count_is (is_neighbour (e ∷ es) v) n,
      count_is (is_neighbour es v) n,
      total_up all (λ u. rest u + (there u + back u)) n (λ u below. either_end (not (u == v)) (e.source == u && e.target == v) (e.source == v && e.target == u) (list_any (joins u v) es)),
      total_both rest (λ u. there u + back u) n,
      total_both there back n,
      once_left (e.target == v) e.source n,
      once_right (e.source == v) e.target n,
    )

no_reads : (form : Form) (n v : ℕ) → length (reads_of form n [] v) ≡ 0
no_reads Given n v = refl
no_reads Back n v = refl
no_reads Simple n v = length-map (filter (is_neighbour [] v) (positions_below n)) unit_read ∙ count_is (is_neighbour [] v) n ∙ total_none (λ u. one_if (is_neighbour [] v u)) n (λ u. nowhere (not (u == v)))
  where
    nowhere : (b : Bool) → one_if (b && false) ≡ 0
    nowhere true = refl
    nowhere false = refl

all_degrees : (form : Form) (n : ℕ) (edges : List Edge) → total (λ v. length (reads_of form n edges v)) n ≤ 2 * length edges
all_degrees form n [] = omega (arith, total_none (λ v. length (reads_of form n [] v)) n (no_reads form n))
all_degrees form n (e ∷ es) =
    let rest : ℕ → ℕ = λ v. length (reads_of form n es v) in
    let to : ℕ → ℕ = λ v. one_if (e.target == v) in
    let from : ℕ → ℕ = λ v. one_if (e.source == v) in
    omega (
      arith,
      total_up (λ v. length (reads_of form n (e ∷ es) v)) (λ v. rest v + (to v + from v)) n (λ v below. degree_more form n e es v),
      total_both rest (λ v. to v + from v) n,
      total_both to from n,
      once e.target n,
      once e.source n,
      all_degrees form n es,
    )

-- ---- all reads of a graph

kept_fewer : (reads : Reads) (degrees : List ℕ) (v : ℕ) (row : List Read) → length (kept_reads reads degrees v row) ≤ length row
kept_fewer reads_kind.All degrees v row = omega arith
kept_fewer (reads_kind.Earlier rank) degrees v row = fewer_kept (λ r. stands_before rank degrees r.source v) row

pub few_reads : (form : Form) (reads : Reads) (n : ℕ) (edges : List Edge) (graph : ReadGraph) → IsGraphOf form reads n edges graph → read_count graph.rows ≤ 2 * length edges
few_reads form reads n edges graph is =
    let sizes : ℕ → ℕ = λ v. length (row_at graph.rows v) in
    omega (
      arith,
      rows_total graph.rows,
      ap (total sizes) is.one_each,
      total_up sizes (λ v. length (reads_of form n edges v)) n
          (λ v below. omega (arith, length_permutation (kept_reads reads graph.degrees v (reads_of form n edges v)) (row_at graph.rows v) (is.rows v below).same, kept_fewer reads graph.degrees v (reads_of form n edges v))),
      all_degrees form n edges,
    )

-- the rows of all reads hold as few
pub few_row_reads : (form : Form) (n : ℕ) (edges : List Edge) → read_count (by_position n (reads_of form n edges)) ≤ 2 * length edges
few_row_reads form n edges =
    let rows : List (List Read) = by_position n (reads_of form n edges) in
    let sizes : ℕ → ℕ = λ v. length (row_at rows v) in
    omega (
      arith,
      rows_total rows,
      ap (total sizes) (length_by_position n (reads_of form n edges)),
      total_up sizes (λ v. length (reads_of form n edges v)) n (λ v below. omega (arith, ap (λ row. length row) (at_position n (reads_of form n edges) v [] below))),
      all_degrees form n edges,
    )
