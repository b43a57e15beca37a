-- In the simple form each of two neighbours reads the other once.
use Rattle.std.proofs.Common.{◌≡◌, ℕ, zero, suc, ◌+◌, ◌<◌, ◌≤◌, Bool, true, false, cond, List, [], ◌∷◌, map, refl, sym, ◌∙◌, ap, zero-add, add-one, arith, inl, inr}
use Rattle.std.specs.Prelude.{◌==◌, ◌&&◌, ◌||◌, filter, nat_lt, not, sum_by, IsTrue}
use Rattle.std.specs.List.{list_any, range_with_len}
use Rattle.std.proofs.lemmas.Bool.{and_parts, cases_Bool, cases_lt, le-ltb, lt-ltb}
use Rattle.std.proofs.lemmas.Bool.Decides.{eqb_tells, nat_tests}
use Rattle.std.proofs.lemmas.List.{get_or_past, map-id}
use Rattle.std.proofs.lemmas.List.Folds.{fold-map}
use Rattle.std.proofs.lemmas.List.FromFn.{sum_by-map-range_with_len_more}
use Rattle.std.proofs.lemmas.List.Sorted.{sum_by-IsPermutation}
use Rattle.std.proofs.lemmas.List.Sums.{sum_by-cons}
use Rattle.px_base.specs.declared.graph.Edge.{Edge}
use Rattle.px_base.specs.declared.graph.Read.{Read}
use Rattle.px_base.specs.declared.graph.ReadGraph.{ReadGraph}
use Rattle.px_base.specs.declared.program.Form.{Form}
use Rattle.px_base.specs.declared.program.Form.TheVariants.{Given, Back, Simple}
use Rattle.px_base.specs.declared.program.Program.{Program}
use Rattle.px_base.specs.declared.program.Reads.{Reads}
use Rattle.px_base.specs.declared.program.Reads.TheVariants as reads_kind
use Rattle.px_base.specs.Classes.{counts_reads, is_core_form, is_same, is_simple, keeps, reads_all, starts_each_at_one}
use Rattle.px_base.specs.Values.{one_if, positions_below}
use Rattle.px_base.specs.Graphs.{IsGraphOf, is_neighbour, joins, reads_of, row_at, unit_read}
use Rattle.core_solver.specs.Mutual.{AreMutual, times_in_row}

-- how often u stands among the items
abbrev times : List ℕ → ℕ → ℕ
times items u = sum_by (λ x. one_if (x == u)) items

-- the number where the test passes, and else 0
abbrev counted : Bool → ℕ → ℕ
counted b m = cond b m 0

-- ---- neighbours

either_way : (a b : Bool) → (a || b) ≡ (b || a)
either_way true true = refl
either_way true false = refl
either_way false true = refl
either_way false false = refl

joined_either_way : (u v : ℕ) (edges : List Edge) → list_any (joins u v) edges ≡ list_any (joins v u) edges
joined_either_way u v [] = refl
joined_either_way u v (e ∷ edges) =
    ap (λ b. b || list_any (joins u v) edges) (either_way (e.source == u && e.target == v) (e.source == v && e.target == u))
    ∙ ap (λ b. joins v u e || b) (joined_either_way u v edges)

same_either_way : (u v : ℕ) → (u == v) ≡ (v == u)
same_either_way u v = grind (arith, nat_tests)

neighbours_either_way : (edges : List Edge) (u v : ℕ) → is_neighbour edges v u ≡ is_neighbour edges u v
neighbours_either_way edges u v =
    ap (λ b. not b && list_any (joins u v) edges) (same_either_way u v) ∙ ap (λ b. not (v == u) && b) (joined_either_way u v edges)

-- ---- positions

placed : (n u : ℕ) → times (map (λ k. k) (range_with_len 0 n)) u ≡ one_if (nat_lt u n)
placed zero u = ap (λ b. one_if b) (sym (le-ltb u 0 (omega arith)))
placed (suc n) u =
    let more : times (map (λ k. k) (range_with_len 0 (n + 1))) u ≡ times (map (λ k. k) (range_with_len 0 n)) u + one_if (n == u) =
    sum_by-map-range_with_len_more (λ x. one_if (x == u)) (λ k. k) 0 n n (zero-add n) in
    let step : times (map (λ k. k) (range_with_len 0 (suc n))) u ≡ one_if (nat_lt u n) + one_if (n == u) = (rw add-one at more) ∙ ap (λ m. m + one_if (n == u)) (placed n u) in
    step ∙ last_or_lower n u
  where
    last_or_lower : (n u : ℕ) → one_if (nat_lt u n) + one_if (n == u) ≡ one_if (nat_lt u (suc n))
    last_or_lower n u = grind (arith, nat_tests)

position_once : (n u : ℕ) → times (positions_below n) u ≡ one_if (nat_lt u n)
position_once n u = ap (λ xs. times xs u) (sym (map-id (positions_below n))) ∙ placed n u

-- ---- those of them that pass a test

kept_step : (test : ℕ → Bool) (x u : ℕ) (xs : List ℕ) (b : Bool) → test x ≡ b → times (filter test xs) u ≡ counted (test u) (times xs u) →
    times (filter test (x ∷ xs)) u ≡ counted (test u) (times (x ∷ xs) u)
kept_step test x u xs true is rest =
    let left : times (filter test (x ∷ xs)) u ≡ one_if (x == u) + times (filter test xs) u =
    ap (λ t. times (cond t (x ∷ filter test xs) (filter test xs)) u) is ∙ sum_by-cons (λ y. one_if (y == u)) x (filter test xs) in
    elim (eqb_tells x u) [
      | inl (here, same) ↦
          (let passes : test u ≡ true = ap test (sym same) ∙ is in
          let all : counted (test u) (times (x ∷ xs) u) ≡ times (x ∷ xs) u = ap (λ t. counted t (times (x ∷ xs) u)) passes in
          let more : counted (test u) (times xs u) ≡ times xs u = ap (λ t. counted t (times xs u)) passes in
          omega (arith, left, all, more, rest, sum_by-cons (λ y. one_if (y == u)) x xs))
      | inr (other, apart) ↦
          (let none : one_if (x == u) ≡ 0 = ap one_if other in
          let stays : times (x ∷ xs) u ≡ times xs u = omega (arith, none, sum_by-cons (λ y. one_if (y == u)) x xs) in
          omega (arith, left, none, rest, ap (counted (test u)) stays))
    ]
kept_step test x u xs false is rest =
    let left : times (filter test (x ∷ xs)) u ≡ times (filter test xs) u = ap (λ t. times (cond t (x ∷ filter test xs) (filter test xs)) u) is in
    elim (eqb_tells x u) [
      | inl (here, same) ↦
          (let fails : test u ≡ false = ap test (sym same) ∙ is in
          left ∙ rest ∙ ap (λ t. counted t (times xs u)) fails ∙ sym (ap (λ t. counted t (times (x ∷ xs) u)) fails))
      | inr (other, apart) ↦
          (let none : one_if (x == u) ≡ 0 = ap one_if other in
          let stays : times (x ∷ xs) u ≡ times xs u = omega (arith, none, sum_by-cons (λ y. one_if (y == u)) x xs) in
          left ∙ rest ∙ ap (counted (test u)) (sym stays))
    ]

kept : (test : ℕ → Bool) (xs : List ℕ) (u : ℕ) → times (filter test xs) u ≡ counted (test u) (times xs u)
kept test [] u = elim (cases_Bool (test u)) [ inl is ↦ rw is refl | inr is ↦ rw is refl ]
kept test (x ∷ xs) u = kept_step test x u xs (test x) refl (kept test xs u)

-- ---- rows

times_unit : (xs : List ℕ) (u : ℕ) → times_in_row (map unit_read xs) u ≡ times xs u
times_unit xs u = fold-map (λ (a : ℕ) (r : Read). a + one_if (r.source == u)) unit_read 0 xs

row_times : (n : ℕ) (edges : List Edge) (graph : ReadGraph) (v u : ℕ) → IsGraphOf Simple reads_kind.All n edges graph → v < n →
    times_in_row (row_at graph.rows v) u ≡ counted (is_neighbour edges v u) (one_if (nat_lt u n))
row_times n edges graph v u is inside =
    sum_by-IsPermutation (λ r. one_if (r.source == u)) (reads_of Simple n edges v) (row_at graph.rows v) (is.rows v inside).same
    ∙ times_unit (filter (is_neighbour edges v) (positions_below n)) u ∙ kept (is_neighbour edges v) (positions_below n) u
    ∙ ap (λ m. counted (is_neighbour edges v u) m) (position_once n u)

row_past : (n : ℕ) (edges : List Edge) (graph : ReadGraph) (v u : ℕ) → IsGraphOf Simple reads_kind.All n edges graph → n ≤ v → times_in_row (row_at graph.rows v) u ≡ 0
row_past n edges graph v u is past = ap (λ row. times_in_row row u) (get_or_past graph.rows v [] (omega (arith, past, is.one_each)))

nothing : (b : Bool) → counted b 0 ≡ 0
nothing true = refl
nothing false = refl

-- no row reads a vertex that isn't there
past_unread : (n : ℕ) (edges : List Edge) (graph : ReadGraph) (v u : ℕ) → IsGraphOf Simple reads_kind.All n edges graph → n ≤ u → times_in_row (row_at graph.rows v) u ≡ 0
past_unread n edges graph v u is past = elim (cases_lt v n) [
  | inl inside ↦ row_times n edges graph v u is inside ∙ ap (λ b. counted (is_neighbour edges v u) (one_if b)) (le-ltb u n past) ∙ nothing (is_neighbour edges v u)
  | inr out ↦ row_past n edges graph v u is out
]

pub simple_is_mutual : (n : ℕ) (edges : List Edge) (graph : ReadGraph) → IsGraphOf Simple reads_kind.All n edges graph → AreMutual graph.rows
simple_is_mutual n edges graph is = λ u v. elim (cases_lt u n) [
  | inr out ↦ past_unread n edges graph v u is out ∙ sym (row_past n edges graph u v is out)
  | inl inside ↦ elim (cases_lt v n) [
    | inr out ↦ row_past n edges graph v u is out ∙ sym (past_unread n edges graph u v is out)
    | inl within ↦
        row_times n edges graph v u is within
        ∙ ap (λ b. counted b (one_if (nat_lt u n))) (neighbours_either_way edges u v)
        ∙ ap (λ b. counted (is_neighbour edges u v) (one_if b)) (lt-ltb u n inside ∙ sym (lt-ltb v n within))
        ∙ sym (row_times n edges graph u v is inside)
  ]
]

-- ---- the graph of a core program

mutual_by : (form : Form) (reads : Reads) (n : ℕ) (edges : List Edge) (graph : ReadGraph) → is_simple form ≡ true → reads_all reads ≡ true → IsGraphOf form reads n edges graph → AreMutual graph.rows
mutual_by Simple reads_kind.All n edges graph simple all is = simple_is_mutual n edges graph is
mutual_by Simple (reads_kind.Earlier rank) n edges graph simple all is = cc
mutual_by Given reads n edges graph simple all is = cc
mutual_by Back reads n edges graph simple all is = cc

pub core_form_is_mutual : (p : Program) (n : ℕ) (edges : List Edge) (graph : ReadGraph) → IsTrue (is_core_form p) → IsGraphOf p.form p.reads n edges graph → AreMutual graph.rows
core_form_is_mutual p n edges graph is made =
    let counts : Bool = counts_reads p.fold in
    let simple : Bool = is_simple p.form in
    let all : Bool = reads_all p.reads in
    let starts : Bool = starts_each_at_one p.start in
    let same : Bool = is_same p.along in
    let five : (counts && simple && all && starts && same) ≡ true = (and_parts (counts && simple && all && starts && same) (keeps p.own) is).0 in
    let four : (counts && simple && all && starts) ≡ true = (and_parts (counts && simple && all && starts) same five).0 in
    let three : (counts && simple && all) ≡ true = (and_parts (counts && simple && all) starts four).0 in
    let two = and_parts (counts && simple) all three in
    mutual_by p.form p.reads n edges graph (and_parts counts simple two.0).1 two.1 made
