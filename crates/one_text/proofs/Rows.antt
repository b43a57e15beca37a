-- A list has no graph of a form but one.
use Rattle.std.proofs.Common.{◌≡◌, ℕ, suc, ◌+◌, ◌<◌, ◌≤◌, Bool, true, false, List, [], ◌∷◌, length, get_or, arith, refl, ap, sym, ◌∙◌, subst}
use Rattle.std.specs.Prelude.{◌==◌, ◌&&◌, ◌||◌, nat_lt, sum_by}
use Rattle.std.specs.List.Sorted.{IsSortedBy}
use Rattle.std.proofs.lemmas.Bool.Decides.{nat_tests}
use Rattle.std.proofs.lemmas.List.{same_lists, get_or_default}
use Rattle.std.proofs.lemmas.List.Sorted.{sum_by-IsPermutation}
use Rattle.std.proofs.lemmas.List.Sums.{sum_by-cons}
use Rattle.px_base.specs.declared.graph.Edge.{Edge}
use Rattle.px_base.specs.declared.graph.Read.{Read}
use Rattle.px_base.specs.declared.graph.ReadGraph.{ReadGraph}
use Rattle.px_base.specs.declared.program.Form.{Form}
use Rattle.px_base.specs.declared.program.Reads.{Reads}
use Rattle.px_base.specs.Values.{one_if}
use Rattle.px_base.specs.Graphs.{is_lower_read, IsRowOf, IsGraphOf, kept_reads, reads_of, row_at}

-- ---- how often a read stands in a row

-- the two have the same source and weight
abbrev is_same_read : Read → Read → Bool
is_same_read a b = a.source == b.source && a.weight == b.weight

abbrev times : List Read → Read → ℕ
times row r = sum_by (λ x. one_if (is_same_read r x)) row

equal_sources : (s t w v : ℕ) → (s == t && w == v) ≡ true → s ≡ t
equal_sources s t w v h = grind (arith, nat_tests)

equal_weights : (s t w v : ℕ) → (s == t && w == v) ≡ true → w ≡ v
equal_weights s t w v h = grind (arith, nat_tests)

abbrev read_of : ℕ → ℕ → Read
read_of s w = record { source = s; weight = w }

one_read : (a b : Read) → a.source ≡ b.source → a.weight ≡ b.weight → a ≡ b
one_read a b h k = ap (λ s. read_of s a.weight) h ∙ ap (read_of b.source) k

same_read : (a b : Read) → is_same_read a b ≡ true → a ≡ b
same_read a b h = one_read a b (equal_sources a.source b.source a.weight b.weight h) (equal_weights a.source b.source a.weight b.weight h)

is_itself : (a : Read) → is_same_read a a ≡ true
is_itself a = grind (arith, nat_tests)

times_more : (r x : Read) (xs : List Read) → times (x ∷ xs) r ≡ one_if (is_same_read r x) + times xs r
times_more r x xs = sum_by-cons (λ y. one_if (is_same_read r y)) x xs

has_itself : (x : Read) (xs : List Read) → 0 < times (x ∷ xs) x
has_itself x xs = omega (arith, times_more x x xs, ap one_if (is_itself x))

-- ---- rows in order

-- a stands before b, or they are the same
record IsUpTo (a b : Read) : Type 0 where
  source : a.source ≤ b.source
  weight : a.source ≡ b.source → a.weight ≤ b.weight

source_up : (s t w v : ℕ) → (nat_lt t s || (t == s && nat_lt v w)) ≡ false → s ≤ t
source_up s t w v h = grind (arith, nat_tests)

weight_up : (s t w v : ℕ) → (nat_lt t s || (t == s && nat_lt v w)) ≡ false → s ≡ t → w ≤ v
weight_up s t w v h same = grind (arith, nat_tests)

up_to : (a b : Read) → is_lower_read b a ≡ false → IsUpTo a b
up_to a b h = record { source = source_up a.source b.source a.weight b.weight h; weight = weight_up a.source b.source a.weight b.weight h }

up_to_itself : (a : Read) → IsUpTo a a
up_to_itself a = record { source = omega arith; weight = λ same. omega arith }

up_farther : (a b c : Read) → IsUpTo a b → IsUpTo b c → IsUpTo a c
up_farther a b c h k =
    let h_weight : a.source ≡ b.source → a.weight ≤ b.weight = h.weight in
    let k_weight : b.source ≡ c.source → b.weight ≤ c.weight = k.weight in
    record { source = omega (arith, h.source, k.source); weight = λ same. omega (arith, h.source, k.source, h_weight, k_weight) }

up_both_ways : (a b : Read) → IsUpTo a b → IsUpTo b a → a ≡ b
up_both_ways a b h k =
    let source : a.source ≡ b.source = omega (arith, h.source, k.source) in
    one_read a b source (omega (arith, h.weight source, k.weight (sym source)))

abbrev IsOrdered : List Read → Type 0
IsOrdered row = IsSortedBy is_lower_read row

rest_ordered : (x : Read) (xs : List Read) → IsOrdered (x ∷ xs) → IsOrdered xs
rest_ordered x xs h k d low below =
    let next : suc k + 1 ≡ suc (k + 1) = omega arith in
    subst (λ (n : ℕ). is_lower_read (get_or (x ∷ xs) n d) (get_or xs k d) ≡ false) next (h (suc k) d (omega arith) (omega arith))

next_up : (x y : Read) (ys : List Read) → IsOrdered (x ∷ y ∷ ys) → IsUpTo x y
next_up x y ys h = up_to x y (h 0 x (omega arith) (omega arith))

-- a read of the row is its first one or stands later
up_from : (x : Read) (xs : List Read) (r : Read) → 0 < times (x ∷ xs) r → (0 < times xs r → IsUpTo x r) → IsUpTo x r
up_from x xs r some later = by_first (is_same_read r x) refl
  where
    by_first : (b : Bool) → is_same_read r x ≡ b → IsUpTo x r
    by_first true same = subst (λ (w : Read). IsUpTo x w) (sym (same_read r x same)) (up_to_itself x)
    by_first false apart = later (omega (arith, times_more r x xs, ap one_if apart))

-- the first read of a row in order stands before all others
first_is_least : (x : Read) (xs : List Read) (r : Read) → IsOrdered (x ∷ xs) → 0 < times (x ∷ xs) r → IsUpTo x r
first_is_least x [] r h some = up_from x [] r some (λ none. absurd (omega arith))
first_is_least x (y ∷ ys) r h some =
    up_from x (y ∷ ys) r some (λ more. up_farther x y r (next_up x y ys h) (first_is_least y ys r (rest_ordered x (y ∷ ys) h) more))

-- rows in order that have each read as often as each other are one
same_times : (xs ys : List Read) → IsOrdered xs → IsOrdered ys → ((r : Read) → times xs r ≡ times ys r) → xs ≡ ys
same_times [] [] h k each = refl
same_times [] (y ∷ ys) h k each = absurd (let none : 0 ≡ times (y ∷ ys) y = each y in omega (arith, has_itself y ys))
same_times (x ∷ xs) [] h k each = absurd (let none : times (x ∷ xs) x ≡ 0 = each x in omega (arith, has_itself x xs))
same_times (x ∷ xs) (y ∷ ys) h k each =
    let down : IsUpTo y x = first_is_least y ys x k (omega (arith, each x, has_itself x xs)) in
    let up : IsUpTo x y = first_is_least x xs y h (omega (arith, each y, has_itself y ys)) in
    let same : x ≡ y = up_both_ways x y up down in
    let rest : xs ≡ ys = same_times xs ys (rest_ordered x xs h) (rest_ordered y ys k)
    (λ r. omega (arith, each r, times_more r x xs, times_more r y ys, ap (λ w. one_if (is_same_read r w)) same)) in
    cc

-- some reads have no row but one
pub one_row : (reads a b : List Read) → IsRowOf reads a → IsRowOf reads b → a ≡ b
one_row reads a b p q = same_times a b p.ordered q.ordered
    (λ r. let test : Read → ℕ = λ x. one_if (is_same_read r x) in
    sum_by-IsPermutation test reads a p.same ∙ sym (sum_by-IsPermutation test reads b q.same))

-- ---- graphs

same_rows : (form : Form) (reads : Reads) (n : ℕ) (edges : List Edge) (g h : ReadGraph) → IsGraphOf form reads n edges g → IsGraphOf form reads n edges h → g.rows ≡ h.rows
same_rows form reads n edges g h p q =
    let same : h.degrees ≡ g.degrees = q.degrees ∙ sym p.degrees in
    same_lists g.rows h.rows (p.one_each ∙ sym q.one_each)
    (λ k d below. let here : k < n = omega (arith, p.one_each) in
    let there : k < length h.rows = omega (arith, q.one_each) in
    let row : IsRowOf (kept_reads reads g.degrees k (reads_of form n edges k)) (row_at h.rows k) =
    subst (λ (l : List ℕ). IsRowOf (kept_reads reads l k (reads_of form n edges k)) (row_at h.rows k)) same (q.rows k here) in
    get_or_default g.rows k d [] below ∙ one_row (kept_reads reads g.degrees k (reads_of form n edges k)) (row_at g.rows k) (row_at h.rows k) (p.rows k here) row ∙ get_or_default h.rows k [] d there)

abbrev graph_of : ℕ → List (List Read) → List ℕ → ReadGraph
graph_of n rows degrees = record { n = n; rows = rows; degrees = degrees }

-- over n vertices, edges have no graph of a form but one
pub one_graph : (form : Form) (reads : Reads) (n : ℕ) (edges : List Edge) (g h : ReadGraph) → IsGraphOf form reads n edges g → IsGraphOf form reads n edges h → g ≡ h
one_graph form reads n edges g h p q =
    let size : g.n ≡ h.n = p.size ∙ sym q.size in
    let rows : g.rows ≡ h.rows = same_rows form reads n edges g h p q in
    let degrees : g.degrees ≡ h.degrees = p.degrees ∙ sym q.degrees in
    ap (λ m. graph_of m g.rows g.degrees) size ∙ ap (λ l. graph_of h.n l g.degrees) rows ∙ ap (graph_of h.n h.rows) degrees
